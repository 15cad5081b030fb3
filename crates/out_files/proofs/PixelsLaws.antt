-- The frames text of a piece that is given in parts.
use Rattle.std.proofs.Common.{◌≡◌, ℕ, ◌+◌, ◌-◌, ◌%◌, ◌<◌, ◌≤◌, List, [], ◌∷◌, ◌++◌, length, take, drop, arith, ap, ◌∙◌}
use Rattle.std.proofs.Common.{sym, append_assoc, length-take-le, ◌==◌, zero, suc, true, false, if◌then◌else◌, refl, subst}
use Rattle.std.proofs.lemmas.List.{take-append-drop, append-nil, take-append-le}
use Rattle.std.proofs.lemmas.Bool.Decides.{nat_tests}
use borrow.Author.Tests.{eqb-true}
use Rattle.ocs_base.specs.Systems.{frame_bytes}
use Rattle.ocs_base.specs.declared.system.System.{System}
use Rattle.ocs_base.specs.declared.system.System.TheVariants.{Pal, Ntsc}
use Rattle.serial_model.specs.Outputs.{heading, heading_at, with_headings}
use Rattle.serial_model.proofs.HeadingLaws.{with_headings-append, with_headings-place, with_headings-within}

-- a number of bytes within a frame is its own place
pub place_within : (system : System) (n : ℕ) → n < frame_bytes system → n % frame_bytes system ≡ n
place_within Pal n inside = omega (arith, inside)
place_within Ntsc n inside = omega (arith, inside)

-- every place is within a frame
pub place_less : (system : System) (n : ℕ) → n % frame_bytes system < frame_bytes system
place_less Pal n = omega arith
place_less Ntsc n = omega arith

-- the place after more bytes follows from the place before them
pub place_after : (system : System) (n m k : ℕ) → n % frame_bytes system ≡ m % frame_bytes system → (n + k) % frame_bytes system ≡ (m + k) % frame_bytes system
place_after Pal n m k e = omega (arith, e)
place_after Ntsc n m k e = omega (arith, e)

pub place_of_place : (system : System) (n : ℕ) → n % frame_bytes system % frame_bytes system ≡ n % frame_bytes system
place_of_place system n = place_within system (n % frame_bytes system) (place_less system n)

-- the part that the present frame takes, and the rest of the piece
pub with_headings-part : (system : System) (n count : ℕ) (piece : List ℕ) → 0 < count → count ≤ length piece → n + count ≤ frame_bytes system →
    heading_at system n ++ take count piece ++ with_headings system ((n + count) % frame_bytes system) (drop count piece) ≡ with_headings system n piece
with_headings-part system n count piece some within inside =
    let size : length (take count piece) ≡ count = length-take-le count piece within in
    let after = with_headings system ((n + count) % frame_bytes system) (drop count piece) in
    let part : with_headings system n (take count piece) ≡ heading_at system n ++ take count piece =
    with_headings-within system n (take count piece) (subst (λ k. 0 < k) (sym size) some) (subst (λ k. n + k ≤ frame_bytes system) (sym size) inside)
    in
    let place : after ≡ with_headings system (n + length (take count piece)) (drop count piece) =
    with_headings-place system ((n + count) % frame_bytes system) (n + length (take count piece)) (drop count piece)
    (place_of_place system (n + count) ∙ ap (λ k. (n + k) % frame_bytes system) (sym size))
    in
    ap (λ (text : List ℕ). text ++ after) (sym part)
    ∙ ap (λ (text : List ℕ). with_headings system n (take count piece) ++ text) place
    ∙ sym (with_headings-append system n (take count piece) (drop count piece))
    ∙ ap (with_headings system n) (take-append-drop count piece)

-- one part more of a piece: what was appended, and what the rest will append, are together what they were
pub pixels-turn : (system : System) (start text rest now left : List ℕ) (n count : ℕ) → 0 < count → count ≤ length rest → n + count ≤ frame_bytes system →
    now ≡ text ++ heading_at system n ++ take count rest → left ≡ drop count rest → text ++ with_headings system n rest ≡ start →
    now ++ with_headings system ((n + count) % frame_bytes system) left ≡ start
pixels-turn system start text rest now left n count some within inside grown shorter whole =
    let after = with_headings system ((n + count) % frame_bytes system) (drop count rest) in
    ap (λ (bytes : List ℕ). now ++ with_headings system ((n + count) % frame_bytes system) bytes) shorter
    ∙ ap (λ (bytes : List ℕ). bytes ++ after) (grown ∙ append_assoc text (heading_at system n) (take count rest))
    ∙ append_assoc text (heading_at system n ++ take count rest) after
    ∙ ap (λ (bytes : List ℕ). text ++ bytes) (with_headings-part system n count rest some within inside)
    ∙ whole

-- nothing is left of the piece
pub pixels-end : (system : System) (start text rest : List ℕ) (n : ℕ) → length rest ≡ 0 → text ++ with_headings system n rest ≡ start → text ≡ start
unfolding with_headings
pixels-end system start text [] n none whole = sym (append-nil text) ∙ whole
pixels-end system start text (byte ∷ bytes) n none whole = absurd (omega arith)

-- the place after the whole piece, of which a part was given
pub place-turn : (system : System) (n count size last : ℕ) → count ≤ size → (n + size) % frame_bytes system ≡ last % frame_bytes system →
    ((n + count) % frame_bytes system + (size - count)) % frame_bytes system ≡ last % frame_bytes system
place-turn system n count size last within whole =
    let rest : n + count + (size - count) ≡ n + size = omega (arith, within) in
    place_after system ((n + count) % frame_bytes system) (n + count) (size - count) (place_of_place system (n + count))
    ∙ ap (λ k. k % frame_bytes system) rest ∙ whole

-- what stood first still does
pub kept-grown : (first text more now : List ℕ) → now ≡ text ++ more → length first ≤ length text → take (length first) text ≡ first
    → take (length first) now ≡ first
kept-grown first text more now grown longer kept =
    ap (λ (bytes : List ℕ). take (length first) bytes) grown ∙ take-append-le (length first) text more longer ∙ kept

pub some_left : (k : ℕ) → false ≡ (k == 0) → 0 < k
some_left zero e = absurd (cc e)
some_left (suc k) e = omega arith

not_first : (k : ℕ) → 0 < k → (k == 0) ≡ false
not_first k some = grind (arith, nat_tests, some)

pub none_left : (k : ℕ) → true ≡ (k == 0) → k ≡ 0
none_left k e = eqb-true k 0 (sym e)

pub first_heading : (system : System) → heading_at system 0 ≡ heading system
first_heading Pal = refl
first_heading Ntsc = refl

pub no_heading : (system : System) (n : ℕ) → 0 < n → n < frame_bytes system → heading_at system n ≡ []
no_heading system n begun inside =
    ap (λ b. if b then heading system else []) (not_first (n % frame_bytes system) (subst (λ k. 0 < k) (sym (place_within system n inside)) begun))

-- within a frame there is no heading
pub within_frame : (system : System) (n : ℕ) (piece : List ℕ) → 0 < n → 0 < length piece → n + length piece < frame_bytes system
    → with_headings system n piece ≡ piece
within_frame system n piece begun some inside =
    with_headings-within system n piece some (omega (arith, inside)) ∙ ap (λ h. h ++ piece) (no_heading system n begun (omega (arith, inside, some)))
