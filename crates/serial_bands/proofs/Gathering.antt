-- Collision bits, gathered of bands.
use Rattle.std.proofs.Common.{◌≡◌, ◌≤◌, ℕ, suc, ◌+◌, ◌-◌, if◌then◌else◌, refl, ap, ◌∙◌, sym, arith, bit_or}
use Rattle.serial_model.specs.Serial.{state_over}
use Rattle.serial_model.specs.State.{reset}
use Rattle.serial_bands.specs.Run.{RunValue, state_of}
use Rattle.serial_bands.specs.Clock.{clx_at, clx_after_at}
use Rattle.serial_bands.specs.BandShown.{clx_from}
use Rattle.serial_bands.specs.Gathering.{GatheredFirst, GatheredMore, GatheredMoreIn, GatheredWhole, GatheredStart}
use Rattle.serial_bands.specs.Gathering.{GatheredCleared, GatheredAtAccess, GatheredNext, GatheredRead, ClxOfRange}
use Rattle.serial_bands.proofs.NextClock.{clx_at_start, clx_at_access, next_clx}
use Rattle.serial_bands.proofs.Ors.{or_assoc, or_none}
use Rattle.serial_bands.proofs.Ranges.{clx_of_two}

-- an empty range has none
none_of_it : (c : ℕ) → c - c ≡ 0
none_of_it c = omega arith

no_clocks : (run : RunValue) (c : ℕ) → clx_from run c 0 ≡ 0
unfolding clx_from
no_clocks run c = refl

none_from : (run : RunValue) (c : ℕ) → clx_from run c (c - c) ≡ 0
none_from run c = ap (λ n. clx_from run c n) (none_of_it c) ∙ no_clocks run c

pub nothing_more : (run : RunValue) (c clx : ℕ) → bit_or clx (clx_from run c (c - c)) ≡ clx
nothing_more run c clx = ap (λ x. bit_or clx x) (none_from run c) ∙ or_none clx

-- two ranges
in_two : (run : RunValue) (first to end : ℕ) → first ≤ to → to ≤ end
    → bit_or (clx_from run first (to - first)) (clx_from run to (end - to)) ≡ clx_from run first (end - first)
in_two run first to end low high =
    let there : first + (to - first) ≡ to = omega (arith, low) in
    let whole : to - first + (end - to) ≡ end - first = omega (arith, low, high) in
    ap (λ c. bit_or (clx_from run first (to - first)) (clx_from run c (end - to))) (sym there)
    ∙ sym (clx_of_two run first (to - first) (end - to))
    ∙ ap (λ n. clx_from run first n) whole

pub clx_of_range : ClxOfRange
clx_of_range run clx first to end low high =
    or_assoc clx (clx_from run first (to - first)) (clx_from run to (end - to))
    ∙ ap (λ x. bit_or clx x) (in_two run first to end low high)

-- a clock more
one_more : (first c : ℕ) → first ≤ c → c + 1 - first ≡ suc (c - first)
one_more first c low = omega (arith, low)

one_clock_more : (run : RunValue) (first n : ℕ) → clx_from run first (suc n) ≡ bit_or (clx_from run first n) (clx_at run (first + n))
unfolding clx_from
one_clock_more run first n = refl

with_clock : (run : RunValue) (clx first c : ℕ) → first ≤ c
    → bit_or (bit_or clx (clx_from run first (c - first))) (clx_at run c) ≡ bit_or clx (clx_from run first (c + 1 - first))
with_clock run clx first c low =
    let n : ℕ = c - first in
    let here : first + n ≡ c = omega (arith, low) in
    or_assoc clx (clx_from run first n) (clx_at run c)
    ∙ ap (λ k. bit_or clx (bit_or (clx_from run first n) (clx_at run k))) (sym here)
    ∙ ap (λ x. bit_or clx x) (sym (one_clock_more run first n))
    ∙ ap (λ k. bit_or clx (clx_from run first k)) (sym (one_more first c low))

next : (c : ℕ) → c + 1 ≡ suc c
next c = omega arith

-- from clock to clock
reset_clx : (run : RunValue) → (state_of run 0).clx ≡ 0
unfolding state_over reset
reset_clx run = refl

pub gathered_first : GatheredFirst
gathered_first run = reset_clx run ∙ sym (nothing_more run 0 0)

pub gathered_more : GatheredMore
gathered_more run c clx first to low high is = is ∙ sym (clx_of_range run clx first to c low high)

pub gathered_more_in : GatheredMoreIn
gathered_more_in run c clx first to low high is = is ∙ sym (clx_of_range run clx first to c low high)

pub gathered_whole : GatheredWhole
gathered_whole run c clx is = is ∙ nothing_more run c clx

pub gathered_start : GatheredStart
gathered_start run c clx first none is =
    clx_at_start run c ∙ ap (λ read. if read then 0 else (state_of run c).clx) none ∙ is

pub gathered_cleared : GatheredCleared
gathered_cleared run c read =
    clx_at_start run c ∙ ap (λ b. if b then 0 else (state_of run c).clx) read ∙ sym (nothing_more run c 0)

pub gathered_at_access : GatheredAtAccess
gathered_at_access run c clx first low is =
    clx_at_access run c ∙ ap (λ x. bit_or x (clx_at run c)) is ∙ with_clock run clx first c low

pub gathered_next : GatheredNext
gathered_next run c clx first low none is =
    ap (λ k. (state_of run k).clx) (next c)
    ∙ next_clx run c
    ∙ ap (λ read. if read then 0 else clx_after_at run c) none
    ∙ gathered_at_access run c clx first low is

pub gathered_read : GatheredRead
gathered_read run c read =
    ap (λ k. (state_of run k).clx) (next c)
    ∙ next_clx run c
    ∙ ap (λ b. if b then 0 else clx_after_at run c) read
    ∙ sym (nothing_more run (c + 1) 0)
