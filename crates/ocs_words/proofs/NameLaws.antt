-- Names that are new are others.
use Rattle.std.proofs.Common.{◌≡◌, ◌≢◌, ℕ, Bool, true, false, not, ◌&&◌, List, [], ◌∷◌, bytes_eq, Some, refl, subst}
use Rattle.std.proofs.lemmas.Slice.Eq.{bytes_eq-Decides}
use Rattle.run_inputs.specs.Names.{is_new, are_names}
use Rattle.ocs_words.specs.Order.{ExtraValue, NoFile, AudioFile, TrackFile, extra_names, audio_of, IsFourthName}

both_first : (a b : Bool) → (a && b) ≡ true → a ≡ true
both_first true b e = refl
both_first false b e = e

both_second : (a b : Bool) → (a && b) ≡ true → b ≡ true
both_second true b e = e
both_second false b e = cc

false_is_true : false ≡ true → ⊥
false_is_true e = cc

differ : (a b : List ℕ) → not (bytes_eq a b) ≡ true → a ≢ b
differ a b e same = false_is_true (subst (λ t. not t ≡ true) ((bytes_eq-Decides a b).1 same) e)

-- a new name is not the first of the others, and it is new to the rest
not_first : (name other : List ℕ) (rest : List (List ℕ)) → is_new name (other ∷ rest) ≡ true → name ≢ other
not_first name other rest e = differ name other (both_first _ _ e)

new_to_rest : (name other : List ℕ) (rest : List (List ℕ)) → is_new name (other ∷ rest) ≡ true → is_new name rest ≡ true
new_to_rest name other rest e = both_second _ _ e

first_new : (name : List ℕ) (rest : List (List ℕ)) → are_names (name ∷ rest) ≡ true → is_new name rest ≡ true
first_new name rest e = both_first _ _ e

rest_names : (name : List ℕ) (rest : List (List ℕ)) → are_names (name ∷ rest) ≡ true → are_names rest ≡ true
rest_names name rest e = both_second _ _ e

-- the names behind the first two
behind_two : (image script : List ℕ) (rest : List (List ℕ)) → are_names (image ∷ script ∷ rest) ≡ true → are_names rest ≡ true
behind_two image script rest e = rest_names script rest (rest_names image (script ∷ rest) e)

pub three_apart : (image script frames trace memory : List ℕ) (more : List (List ℕ))
    → are_names (image ∷ script ∷ frames ∷ trace ∷ memory ∷ more) ≡ true → (frames ≢ trace) × (frames ≢ memory) × (trace ≢ memory)
three_apart image script frames trace memory more e =
    let three : are_names (frames ∷ trace ∷ memory ∷ more) ≡ true = behind_two image script (frames ∷ trace ∷ memory ∷ more) e in
    let two : are_names (trace ∷ memory ∷ more) ≡ true = rest_names frames (trace ∷ memory ∷ more) three in
    let new : is_new frames (trace ∷ memory ∷ more) ≡ true = first_new frames (trace ∷ memory ∷ more) three in (
      not_first frames trace (memory ∷ more) new,
      not_first frames memory more (new_to_rest frames trace (memory ∷ more) new),
      not_first trace memory more (first_new trace (memory ∷ more) two),
    )

fourth_apart : (image script frames trace memory name : List ℕ) → are_names (image ∷ script ∷ frames ∷ trace ∷ memory ∷ name ∷ []) ≡ true
    → IsFourthName (record { frames = frames; trace = trace; memory = memory }) (Some name)
fourth_apart image script frames trace memory name e =
    let three : are_names (frames ∷ trace ∷ memory ∷ name ∷ []) ≡ true =
    behind_two image script (frames ∷ trace ∷ memory ∷ name ∷ []) e in
    let two : are_names (trace ∷ memory ∷ name ∷ []) ≡ true = rest_names frames (trace ∷ memory ∷ name ∷ []) three in
    let one : are_names (memory ∷ name ∷ []) ≡ true = rest_names trace (memory ∷ name ∷ []) two in
    let new : is_new frames (trace ∷ memory ∷ name ∷ []) ≡ true = first_new frames (trace ∷ memory ∷ name ∷ []) three in
    record {
      frames = not_first frames name []
          (new_to_rest frames memory (name ∷ []) (new_to_rest frames trace (memory ∷ name ∷ []) new));
      trace = not_first trace name [] (new_to_rest trace memory (name ∷ []) (first_new trace (memory ∷ name ∷ []) two));
      memory = not_first memory name [] (first_new memory (name ∷ []) one);
    }

pub audio_apart : (image script frames trace memory : List ℕ) (extra : ExtraValue)
    → are_names (image ∷ script ∷ frames ∷ trace ∷ memory ∷ extra_names extra) ≡ true
    → IsFourthName (record { frames = frames; trace = trace; memory = memory }) (audio_of extra)
audio_apart image script frames trace memory NoFile e = tt
audio_apart image script frames trace memory (AudioFile name) e = fourth_apart image script frames trace memory name e
audio_apart image script frames trace memory (TrackFile name) e = tt
