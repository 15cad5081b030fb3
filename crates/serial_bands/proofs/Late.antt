-- Fetches of planes before the picture steps of their clock and of those before it.
use Rattle.std.proofs.Common.{◌≡◌, ◌<◌, ◌≤◌, ℕ, zero, suc, ◌+◌, List, ◌++◌, bit_or, refl, ap, ◌∙◌, sym, arith, slice_set}
use Rattle.ocs_base.specs.declared.system.System.{System}
use Rattle.serial_model.specs.declared.picture.Denise.{Denise}
use Rattle.serial_model.specs.Picture.{PictureStep, set_picture, plane_latch, add_load, step_of, after_step}
use Rattle.serial_model.specs.Spans.{after_shows, shown_bytes, shown_clx}
use Rattle.serial_model.proofs.LateLoads.{step_early, step_unlatched}
use Rattle.serial_bands.specs.Late.{IsLate, FetchesAreLate}

-- a change that the picture step of a clock does not see, and that does not see what a picture step leaves
record IsUnseen (system : System) (v h : ℕ) (change : Denise → Denise) : Type 0 where
  step : (p : Denise) → step_of system v h (change p) ≡ step_of system v h p
  left : (step : PictureStep) (p : Denise) → change (after_step step p) ≡ after_step step (change p)

-- such a change is late for all the clocks that do not see it
state_late : (system : System) (v h n : ℕ) (change : Denise → Denise) (p : Denise)
    → ((k : ℕ) → k < n → IsUnseen system v (h + k) change)
    → change (after_shows system v h n p) ≡ after_shows system v h n (change p)
unfolding after_shows
state_late system v h zero change p unseen = refl
state_late system v h (suc n) change p unseen =
    let before : Denise = after_shows system v h n p in
    let here : IsUnseen system v (h + n) change = unseen n (omega arith) in
    let state : change before ≡ after_shows system v h n (change p) =
    state_late system v h n change p (λ k less. unseen k (omega arith)) in
    here.left (step_of system v (h + n) before) before
    ∙ ap (λ step. after_step step (change before)) (sym (here.step before))
    ∙ ap (λ q. after_step (step_of system v (h + n) q) q) state

-- the step of one more clock
last_step : (system : System) (v h n : ℕ) (change : Denise → Denise) (p : Denise)
    → ((k : ℕ) → k < suc n → IsUnseen system v (h + k) change)
    → step_of system v (h + n) (after_shows system v h n p) ≡ step_of system v (h + n) (after_shows system v h n (change p))
last_step system v h n change p unseen =
    let here : IsUnseen system v (h + n) change = unseen n (omega arith) in
    sym (here.step (after_shows system v h n p))
    ∙ ap (λ q. step_of system v (h + n) q) (state_late system v h n change p (λ k less. unseen k (omega arith)))

bytes_late : (system : System) (v h n : ℕ) (change : Denise → Denise) (p : Denise)
    → ((k : ℕ) → k < n → IsUnseen system v (h + k) change)
    → shown_bytes system v h n p ≡ shown_bytes system v h n (change p)
unfolding shown_bytes
bytes_late system v h zero change p unseen = refl
bytes_late system v h (suc n) change p unseen =
    ap (λ l. l ++ (step_of system v (h + n) (after_shows system v h n p)).bytes)
    (bytes_late system v h n change p (λ k less. unseen k (omega arith)))
    ∙ ap (λ (step : PictureStep). shown_bytes system v h n (change p) ++ step.bytes) (last_step system v h n change p unseen)

clx_late : (system : System) (v h n : ℕ) (change : Denise → Denise) (p : Denise)
    → ((k : ℕ) → k < n → IsUnseen system v (h + k) change)
    → shown_clx system v h n p ≡ shown_clx system v h n (change p)
unfolding shown_clx
clx_late system v h zero change p unseen = refl
clx_late system v h (suc n) change p unseen =
    ap (λ x. bit_or x (step_of system v (h + n) (after_shows system v h n p)).clx)
    (clx_late system v h n change p (λ k less. unseen k (omega arith)))
    ∙ ap (λ (step : PictureStep). bit_or (shown_clx system v h n (change p)) step.clx) (last_step system v h n change p unseen)

unseen_late : (system : System) (v h n : ℕ) (change : Denise → Denise) (p : Denise)
    → ((k : ℕ) → k < n → IsUnseen system v (h + k) change) → IsLate system v h n change p
unseen_late system v h n change p unseen = record {
  state = state_late system v h n change p unseen;
  bytes = bytes_late system v h n change p unseen;
  clx = clx_late system v h n change p unseen;
}

-- of the planes' latches the first makes a load, and those of the planes 2 to 6 are filled
first_latch : (h word : ℕ) (p : Denise)
    → set_picture h (plane_latch 1) word p ≡ add_load h (record p { latches = slice_set p.latches 0 word })
unfolding set_picture
first_latch h word p = refl

load_step : (system : System) (v here h word : ℕ) (p : Denise) → here ≤ h
    → step_of system v here (set_picture h (plane_latch 1) word p) ≡ step_of system v here p
load_step system v here h word p order =
    let latches : List ℕ = slice_set p.latches 0 word in
    ap (λ q. step_of system v here q) (first_latch h word p)
    ∙ step_early system v here h (record p { latches = latches }) order
    ∙ step_unlatched system v here latches p

load_unseen : (system : System) (v here h word : ℕ) → here ≤ h → IsUnseen system v here (set_picture h (plane_latch 1) word)
unfolding set_picture
load_unseen system v here h word order = record {
  step = λ p. load_step system v here h word p order;
  left = λ step p. refl;
}

latch_unseen : (system : System) (v here place word : ℕ) → IsUnseen system v here (λ p. record p { latches = slice_set p.latches place word })
latch_unseen system v here place word = record {
  step = λ p. step_unlatched system v here (slice_set p.latches place word) p;
  left = λ step p. refl;
}

-- each plane's
fetch_unseen : (system : System) (v here h plane word : ℕ) → plane ≤ 6 → here ≤ h
    → IsUnseen system v here (set_picture h (plane_latch plane) word)
unfolding set_picture
fetch_unseen system v here h zero word few order = record { step = λ p. refl; left = λ step p. refl }
fetch_unseen system v here h (suc zero) word few order = load_unseen system v here h word order
fetch_unseen system v here h (suc (suc zero)) word few order = latch_unseen system v here 1 word
fetch_unseen system v here h (suc (suc (suc zero))) word few order = latch_unseen system v here 2 word
fetch_unseen system v here h (suc (suc (suc (suc zero)))) word few order = latch_unseen system v here 3 word
fetch_unseen system v here h (suc (suc (suc (suc (suc zero))))) word few order = latch_unseen system v here 4 word
fetch_unseen system v here h (suc (suc (suc (suc (suc (suc zero)))))) word few order = latch_unseen system v here 5 word
fetch_unseen system v here h (suc (suc (suc (suc (suc (suc (suc plane))))))) word few order = absurd (omega arith)

pub fetches_are_late : FetchesAreLate
fetches_are_late system v h n plane word p few =
    unseen_late system v h (suc n) (set_picture (h + n) (plane_latch plane) word) p
    (λ k less. fetch_unseen system v (h + k) (h + n) plane word few (omega arith))
