-- The writes of memory of a run.
use Rattle.std.proofs.Common.{◌≡◌, ◌<◌, ◌≤◌, ℕ, zero, suc, ◌+◌, ◌-◌, ◌/◌, true, false, nat_lt, inl, inr}
use Rattle.std.proofs.Common.{List, [], ◌++◌, slice_index, refl, ap, ◌∙◌, sym, subst, arith, append-nil}
use Rattle.std.proofs.lemmas.Bool.{cases_eq}
use Rattle.std.proofs.lemmas.Bool.Decides.{nat_tests}
use Rattle.std.proofs.lemmas.List.Elements.{filter-append}
use Rattle.mem_versions.specs.MemoryAt.{words_after, writes_below, memory_at}
use Rattle.mem_versions.specs.declared.write.Write.{Write}
use Rattle.mem_versions.proofs.MemoryLaws.{words_after-append}
use Rattle.serial_model.specs.declared.bus.Made.{Made}
use Rattle.serial_model.specs.declared.bus.Made.TheVariants as M
use Rattle.serial_model.specs.Made.{memory_after}
use Rattle.serial_bands.specs.Run.{RunValue, run_memory}
use Rattle.serial_bands.specs.Clock.{made_at}
use Rattle.serial_bands.specs.Stores.{stores_of, stores_at, stores_from, StoresMakeMemory, MemoryByStores, ViewHasMemory}
use Rattle.serial_bands.proofs.NextClock.{next_memory}

one_store : (c : ℕ) (made : Made) (memory : List ℕ) → words_after memory (stores_of c made memory) ≡ memory_after made memory
one_store c M.Nothing memory = refl
one_store c (M.Wrote reg word by) memory = refl
one_store c (M.Read reg by) memory = refl
one_store c (M.Stored at half word) memory = refl
one_store c (M.Plane plane at) memory = refl
one_store c (M.Sprite sprite second at) memory = refl

none_later : (c : ℕ) → c ≡ c + 0
none_later c = omega arith

later : (c n : ℕ) → suc (c + n) ≡ c + suc n
later c n = omega arith

pub stores_make_memory : StoresMakeMemory
unfolding stores_from
stores_make_memory run c zero = ap (λ k. run_memory run k) (none_later c)
stores_make_memory run c (suc n) =
    words_after-append (run_memory run c) (stores_from run c n) (stores_at run (c + n))
    ∙ ap (λ words. words_after words (stores_at run (c + n))) (stores_make_memory run c n)
    ∙ one_store (c + n) (made_at run (c + n)) (run_memory run (c + n))
    ∙ sym (next_memory run (c + n))
    ∙ ap (λ k. run_memory run k) (later c n)

-- which of them are below a clock
is_below : (c now : ℕ) → c < now → nat_lt c now ≡ true
is_below c now less = grind (arith, nat_tests, less)

not_below : (c now : ℕ) → now ≤ c → nat_lt c now ≡ false
not_below c now most = grind (arith, nat_tests, most)

one_below : (c now : ℕ) (made : Made) (memory : List ℕ) → c < now → writes_below now (stores_of c made memory) ≡ stores_of c made memory
one_below c now M.Nothing memory less = refl
one_below c now (M.Wrote reg word by) memory less = refl
one_below c now (M.Read reg by) memory less = refl
one_below c now (M.Stored at half word) memory less = rw (is_below c now less) refl
one_below c now (M.Plane plane at) memory less = refl
one_below c now (M.Sprite sprite second at) memory less = refl

none_below : (c now : ℕ) (made : Made) (memory : List ℕ) → now ≤ c → writes_below now (stores_of c made memory) ≡ []
none_below c now M.Nothing memory most = refl
none_below c now (M.Wrote reg word by) memory most = refl
none_below c now (M.Read reg by) memory most = refl
none_below c now (M.Stored at half word) memory most = rw (not_below c now most) refl
none_below c now (M.Plane plane at) memory most = refl
none_below c now (M.Sprite sprite second at) memory most = refl

all_below : (run : RunValue) (c n now : ℕ) → c + n ≤ now → writes_below now (stores_from run c n) ≡ stores_from run c n
unfolding stores_from
all_below run c zero now most = refl
all_below run c (suc n) now most =
    filter-append (λ (write : Write). nat_lt write.clock now) (stores_from run c n) (stores_at run (c + n))
    ∙ ap (λ l. l ++ writes_below now (stores_at run (c + n))) (all_below run c n now (omega (arith, most)))
    ∙ ap (λ l. stores_from run c n ++ l)
    (one_below (c + n) now (made_at run (c + n)) (run_memory run (c + n)) (omega (arith, most)))

those_below : (run : RunValue) (c n k : ℕ) → k ≤ n → writes_below (c + k) (stores_from run c n) ≡ stores_from run c k
unfolding stores_from
those_below run c zero k most = ap (λ i. stores_from run c i) (let none : 0 ≡ k = omega (arith, most) in none)
those_below run c (suc n) k most =
    elim (cases_eq k (suc n)) [
      | inl e ↦ (
          all_below run c (suc n) (c + k) (omega (arith, e)) ∙ ap (λ i. stores_from run c i) (sym e))
      | inr other ↦ (
          let o : k ≡ suc n → ⊥ = other in
          let less : k ≤ n = omega (arith, most) in
          filter-append (λ (write : Write). nat_lt write.clock (c + k)) (stores_from run c n) (stores_at run (c + n))
          ∙ ap (λ l. l ++ writes_below (c + k) (stores_at run (c + n))) (those_below run c n k less)
          ∙ ap (λ l. stores_from run c k ++ l)
          (none_below (c + n) (c + k) (made_at run (c + n)) (run_memory run (c + n)) (omega (arith, less)))
          ∙ append-nil (stores_from run c k))
    ]

pub memory_by_stores : MemoryByStores
memory_by_stores run c n k most =
    ap (λ writes. words_after (run_memory run c) writes) (those_below run c n k most) ∙ stores_make_memory run c k

pub view_has_memory : ViewHasMemory
view_has_memory run from to chip view order base writes is c at least most =
    let k : ℕ = c - from in
    let n : ℕ = to - from in
    let here : from + k ≡ c = omega arith in
    let bound : k ≤ n = omega arith in
    let past : memory_at (from + k) (run_memory run from) (stores_from run from n) ≡ run_memory run (from + k) =
    memory_by_stores run from n k bound in
    let found : memory_at c view.base view.writes ≡ run_memory run c =
    is.memory c most
    ∙ ap (λ b. memory_at c b chip.writes) base
    ∙ ap (λ w. memory_at c (run_memory run from) w) writes
    ∙ subst (λ i. memory_at i (run_memory run from) (stores_from run from n) ≡ run_memory run i) here past in
    ap (λ memory. slice_index memory (at.value / 2)) found
