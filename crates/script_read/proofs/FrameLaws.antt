-- The third line.
use Rattle.std.proofs.Common.{◌≡◌, ◌≢◌, ℕ, true, false, List, [], ◌∷◌, length, refl, ap, ◌∙◌, None, if◌then◌else◌, bytes_eq, codes}
use Rattle.ocs_io.specs.Numbers.{dec_of}
use Rattle.script_read.specs.Grammar.{frames_in, kept_frames}

pub frames-none : (words : List (List ℕ)) → length words ≢ 2 → frames_in words ≡ None
unfolding frames_in
frames-none [] few = refl
frames-none (a ∷ []) few = refl
frames-none (a ∷ b ∷ []) few = absurd (few refl)
frames-none (a ∷ b ∷ c ∷ words) few = refl

frames-two : (words : List (List ℕ)) (name number : List ℕ) → words ≡ name ∷ number ∷ []
    → frames_in words ≡ (if bytes_eq name (codes "frames") then kept_frames (dec_of number) else None)
unfolding frames_in
frames-two words name number is = ap frames_in is

pub frames-yes : (words : List (List ℕ)) (name number : List ℕ) → words ≡ name ∷ number ∷ [] → bytes_eq name (codes "frames") ≡ true
    → frames_in words ≡ kept_frames (dec_of number)
frames-yes words name number is named = frames-two words name number is ∙ ap (λ b. if b then kept_frames (dec_of number) else None) named

pub frames-no : (words : List (List ℕ)) (name number : List ℕ) → words ≡ name ∷ number ∷ [] → bytes_eq name (codes "frames") ≡ false → frames_in words ≡ None
frames-no words name number is no_frames = frames-two words name number is ∙ ap (λ b. if b then kept_frames (dec_of number) else None) no_frames

pub ruleset frame_laws = (frames-none, frames-yes, frames-no)
