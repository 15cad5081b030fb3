-- Laws of words in pages of 256.
use Rattle.std.proofs.Common.{take-add, ◌≡◌, ℕ, ◌+◌, ◌-◌, ◌*◌, ◌/◌, ◌%◌, ◌<◌, ◌≤◌, Some, None, slice_get, List, [], ◌∷◌, ◌++◌, length, All}
use Rattle.std.proofs.Common.{take, drop, get_or, zero, suc, refl, sym, ap, ◌∙◌, arith, length-append, Result, Ok, Err, OnErr, ◌⊎◌, inl, inr}
use Rattle.std.proofs.Math.ListN.{set}
use Rattle.std.proofs.Math.Seq.{drop-append-add}
use Rattle.std.specs.List.{flat_map, AllZip}
use Rattle.std.proofs.lemmas.List.{get_or_append_left as get_or-append, take_all, take-append-le, take-take, drop-take, drop-drop}
use Rattle.std.proofs.lemmas.List.{set-append_left, set-append_right, get_or-append_right, flat_map_more}
use Rattle.std.proofs.lemmas.List.Elements.{All-head, All-tail, All-cons}
use Rattle.std.proofs.lemmas.Option.{slice_get-get_or}
use Rattle.std.proofs.lemmas.Bool.{cases_lt}
use Rattle.std.proofs.lemmas.Nat.{mul-le}

-- every page has so many words
abbrev pub ArePages : {X : Type 0} → ℕ → (X → List ℕ) → List X → Type 0
ArePages size f ps = All (λ p. length (f p) ≡ size) ps

pub length-joined : {X : Type 0} (size : ℕ) (f : X → List ℕ) (ps : List X) → ArePages size f ps → length (flat_map f ps) ≡ size * length ps
length-joined size f [] each = omega arith
length-joined size f (p ∷ ps) each =
    let here : length (f p) ≡ size = All-head (λ p. length (f p) ≡ size) p ps each in
    let rest : length (flat_map f ps) ≡ size * length ps = length-joined size f ps (All-tail (λ p. length (f p) ≡ size) p ps each) in
    omega (arith, length-append (f p) (flat_map f ps))

-- words that end within the pages
pub page-within : {X : Type 0} (size : ℕ) (f : X → List ℕ) (ps : List X) (words : List ℕ) (n : ℕ) → ArePages size f ps → flat_map f ps ≡ words →
    size * n + size ≤ length words → 0 < size → n < length ps
page-within size f ps words n each are within some =
    let whole : length words ≡ size * length ps = ap length (sym are) ∙ length-joined size f ps each in
    by_cases (cases_lt n (length ps)) whole
  where
    by_cases : (n < length ps) ⊎ (length ps ≤ n) → length words ≡ size * length ps → n < length ps
    by_cases (inl less) whole = less
    by_cases (inr past) whole = let most : size * length ps ≤ size * n = mul-le size (length ps) size n (omega arith) past in absurd (omega arith)

pub place-within-pages : {X : Type 0} (f : X → List ℕ) (ps : List X) (words : List ℕ) (place : ℕ) → ArePages 256 f ps → flat_map f ps ≡ words →
    place < length words → place / 256 < length ps
place-within-pages f ps words place each are within = omega (arith, ap length are, length-joined 256 f ps each)

pub place-within-groups : {X : Type 0} (f : X → List ℕ) (ps : List X) (words : List ℕ) (place : ℕ) → ArePages 8192 f ps → flat_map f ps ≡ words →
    place < length words → place / 8192 < length ps
place-within-groups f ps words place each are within = omega (arith, ap length are, length-joined 8192 f ps each)

-- the word at a place is that of its page
pub get_or-joined : {X : Type 0} (size : ℕ) (f : X → List ℕ) (ps : List X) (n place j : ℕ) (d : X) → ArePages size f ps → n < length ps → j < size
    → place ≡ size * n + j → get_or (flat_map f ps) place 0 ≡ get_or (f (get_or ps n d)) j 0
get_or-joined size f [] n place j d each within small at = absurd (omega arith)
get_or-joined size f (p ∷ ps) zero place j d each within small at =
    let here : length (f p) ≡ size = All-head (λ p. length (f p) ≡ size) p ps each in
    let same : place ≡ j = omega arith in
    get_or-append (f p) (flat_map f ps) 0 place (omega arith) ∙ ap (λ (i : ℕ). get_or (f p) i 0) same
get_or-joined size f (p ∷ ps) (suc n) place j d each within small at =
    let here : length (f p) ≡ size = All-head (λ p. length (f p) ≡ size) p ps each in
    get_or-append_right (f p) (flat_map f ps) size place 0 here (omega arith)
    ∙ get_or-joined size f ps n (place - size) j d (All-tail (λ p. length (f p) ≡ size) p ps each) (omega arith) small (omega arith)

-- the word at a place, where there is a page for it
pub read-word : {X : Type 0} (size : ℕ) (f : X → List ℕ) (ps : List X) (words : List ℕ) (n place j : ℕ) (page : X) → ArePages size f ps
    → flat_map f ps ≡ words → n < length ps → j < size → place ≡ size * n + j → page ≡ get_or ps n page → get_or (f page) j 0 ≡ get_or words place 0
read-word size f ps words n place j page each are within small at is =
    ap (λ p. get_or (f p) j 0) is
    ∙ sym (get_or-joined size f ps n place j page each within small at)
    ∙ ap (λ (ws : List ℕ). get_or ws place 0) are

-- a word written in its page is written at its place
pub joined-set : {X : Type 0} (size : ℕ) (f : X → List ℕ) (ps : List X) (n place j w : ℕ) (q d : X) → ArePages size f ps → n < length ps → j < size
    → place ≡ size * n + j → f q ≡ set (f (get_or ps n d)) j w → flat_map f (set ps n q) ≡ set (flat_map f ps) place w
joined-set size f [] n place j w q d each within small at made = absurd (omega arith)
joined-set size f (p ∷ ps) zero place j w q d each within small at made =
    let here : length (f p) ≡ size = All-head (λ p. length (f p) ≡ size) p ps each in
    let same : j ≡ place = omega arith in
    ap (λ (page : List ℕ). page ++ flat_map f ps) (made ∙ ap (λ (i : ℕ). set (f p) i w) same)
    ∙ sym (set-append_left (f p) (flat_map f ps) place w (omega arith))
joined-set size f (p ∷ ps) (suc n) place j w q d each within small at made =
    let here : length (f p) ≡ size = All-head (λ p. length (f p) ≡ size) p ps each in
    ap (λ (rest : List ℕ). f p ++ rest)
    (joined-set size f ps n (place - size) j w q d (All-tail (λ p. length (f p) ≡ size) p ps each) (omega arith) small (omega arith) made)
    ∙ sym (set-append_right (f p) (flat_map f ps) size place w here (omega arith))

-- a page that has the words of the one before it changes nothing
pub joined-same : {X : Type 0} (f : X → List ℕ) (ps : List X) (n : ℕ) (q d : X) → n < length ps → f q ≡ f (get_or ps n d)
    → flat_map f (set ps n q) ≡ flat_map f ps
joined-same f [] n q d within same = absurd (omega arith)
joined-same f (p ∷ ps) zero q d within same = ap (λ (page : List ℕ). page ++ flat_map f ps) same
joined-same f (p ∷ ps) (suc n) q d within same = ap (λ (rest : List ℕ). f p ++ rest) (joined-same f ps n q d (omega arith) same)

-- the words of a page are those from its first place on
pub joined-page : {X : Type 0} (size : ℕ) (f : X → List ℕ) (ps : List X) (n place : ℕ) (d : X) → ArePages size f ps → n < length ps → place ≡ size * n →
    f (get_or ps n d) ≡ take size (drop place (flat_map f ps))
joined-page size f [] n place d each within at = absurd (omega arith)
joined-page size f (p ∷ ps) zero place d each within at =
    let here : length (f p) ≡ size = All-head (λ p. length (f p) ≡ size) p ps each in
    let start : place ≡ 0 = omega arith in
    sym (ap (λ (k : ℕ). take size (drop k (f p ++ flat_map f ps))) start
    ∙ take-append-le size (f p) (flat_map f ps) (omega arith) ∙ take_all size (f p) (omega arith))
joined-page size f (p ∷ ps) (suc n) place d each within at =
    let here : length (f p) ≡ size = All-head (λ p. length (f p) ≡ size) p ps each in
    let more : place ≡ length (f p) + (place - size) = omega arith in
    joined-page size f ps n (place - size) d (All-tail (λ p. length (f p) ≡ size) p ps each) (omega arith) (omega arith)
    ∙ sym (ap (λ (k : ℕ). take size (drop k (f p ++ flat_map f ps))) more
    ∙ ap (take size) (drop-append-add (f p) (flat_map f ps) (place - size)))

-- pages that are shared have the same words
pub joined-shared : {X : Type 0} (f : X → List ℕ) (ps qs : List X) → AllZip (λ p q. f q ≡ f p) ps qs → flat_map f qs ≡ flat_map f ps
joined-shared f [] [] same = refl
joined-shared f [] (q ∷ qs) same = absurd same
joined-shared f (p ∷ ps) [] same = absurd same
joined-shared f (p ∷ ps) (q ∷ qs) same =
    ap (λ (page : List ℕ). page ++ flat_map f qs) same.0 ∙ ap (λ (rest : List ℕ). f p ++ rest) (joined-shared f ps qs same.1)

pub ArePages-shared : {X : Type 0} (size : ℕ) (f : X → List ℕ) (ps qs : List X) → AllZip (λ p q. f q ≡ f p) ps qs → ArePages size f ps → ArePages size f qs
ArePages-shared size f [] [] same each = each
ArePages-shared size f [] (q ∷ qs) same each = absurd same
ArePages-shared size f (p ∷ ps) [] same each = absurd same
ArePages-shared size f (p ∷ ps) (q ∷ qs) same each =
    All-cons (λ p. length (f p) ≡ size) q qs (ap length same.0 ∙ All-head (λ p. length (f p) ≡ size) p ps each)
    (ArePages-shared size f ps qs same.1 (All-tail (λ p. length (f p) ≡ size) p ps each))

-- a part of a part
pub part-of-part : (words : List ℕ) (from most at count place : ℕ) → at + count ≤ most → place ≡ from + at →
    take count (drop at (take most (drop from words))) ≡ take count (drop place words)
part-of-part words from most at count place within is =
    let rest = most - at in
    let whole : most ≡ at + rest = omega arith in
    ap (λ (k : ℕ). take count (drop at (take k (drop from words)))) whole
    ∙ ap (take count) (drop-take at rest (drop from words))
    ∙ take-take count rest (drop at (drop from words)) (omega arith)
    ∙ ap (take count) (drop-drop at from words)
    ∙ ap (λ (k : ℕ). take count (drop k words)) (sym is)

-- the words of a page of a group of pages
pub page-of-group : {X : Type 0} (f : X → List ℕ) (gs : List X) (words : List ℕ) (n : ℕ) (d : X) → ArePages 8192 f gs → flat_map f gs ≡ words →
    n / 32 < length gs → take 256 (drop (256 * (n % 32)) (f (get_or gs (n / 32) d))) ≡ take 256 (drop (256 * n) words)
page-of-group f gs words n d each are within =
    ap (λ (ws : List ℕ). take 256 (drop (256 * (n % 32)) ws)) (joined-page 8192 f gs (n / 32) (8192 * (n / 32)) d each within refl)
    ∙ part-of-part (flat_map f gs) (8192 * (n / 32)) 8192 (256 * (n % 32)) 256 (256 * n) (omega arith) (omega arith)
    ∙ ap (λ (ws : List ℕ). take 256 (drop (256 * n) ws)) are

-- where a list has nothing at a place it has ended
pub ended : (words : List ℕ) (place : ℕ) → slice_get words place ≡ None → length words ≤ place
ended words place none = by_cases (cases_lt place (length words))
  where
    by_cases : (place < length words) ⊎ (length words ≤ place) → length words ≤ place
    by_cases (inl within) = let found : slice_get words place ≡ Some (get_or words place 0) = slice_get-get_or words place 0 within in cc
    by_cases (inr past) = past

-- what follows from what a clause says of a refusal
pub on_err_weaker : {T E P Q : Type 0} (r : Result T E) → (P → Q) → OnErr r P → OnErr r Q
on_err_weaker (Ok x) then holds = holds
on_err_weaker (Err e) then holds = then holds

-- one page more
pub joined-push : {X : Type 0} (size : ℕ) (f : X → List ℕ) (ps : List X) (p : X) (words : List ℕ) (n : ℕ) → flat_map f ps ≡ take (size * n) words →
    f p ≡ take size (drop (size * n) words) → flat_map f (ps ++ p ∷ []) ≡ take (size * (n + 1)) words
joined-push size f ps p words n before this =
    let more : size * n + size ≡ size * (n + 1) = omega arith in
    sym (flat_map_more f [] ps p)
    ∙ ap (λ (front : List ℕ). front ++ f p) before
    ∙ ap (λ (page : List ℕ). take (size * n) words ++ page) this
    ∙ sym (take-add (size * n) size words)
    ∙ ap (λ (k : ℕ). take k words) more
