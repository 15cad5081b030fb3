-- The looks of a claim, place by place.
use Rattle.std.proofs.Common.{◌≡◌, ℕ, zero, suc, ◌+◌, ◌<◌, List, [], ◌∷◌, ◌++◌, length, take, set, sym, ap, ◌∙◌, subst, All, arith}
use Rattle.std.proofs.lemmas.List.{append_assoc, append-nil, length-take-le}
use Rattle.std.proofs.lemmas.List.Elements.{All-append}
use Rattle.std.proofs.Math.Seq.{take-suc-set}
use Rattle.band_board.specs.declared.view.View.{View}
use Rattle.band_board.specs.declared.hand.Look.{Look}
use Rattle.band_board.specs.View.{after_look}
use Rattle.band_board.specs.Answers.{IsRefused, looks_at, looks_from, after_looks}

looks_from_more : (p : ℕ) (looks : List Look) (look : Look) → looks_from p (looks ++ look ∷ []) ≡ looks_from p looks ++ looks_at (p + length looks) look
looks_from_more p [] look = append-nil (looks_at p look) ∙ ap (λ (z : ℕ). looks_at z look) (let h : p ≡ p + 0 = omega arith in h)
looks_from_more p (x ∷ xs) look = ap (λ l. looks_at p x ++ l) (looks_from_more (suc p) xs look
    ∙ ap (λ (z : ℕ). looks_from (suc p) xs ++ looks_at z look) (let h : suc p + length xs ≡ p + suc (length xs) = omega arith in h))
    ∙ sym (append_assoc (looks_at p x) (looks_from (suc p) xs) (looks_at (p + length (x ∷ xs)) look))

-- the looks below a place, and the one at it
taken_more : (seen : List Look) (place : ℕ) (look : Look) → place < length seen → take (place + 1) (set seen place look) ≡ take place seen ++ look ∷ []
taken_more seen place look l = ap (λ (z : ℕ). take z (set seen place look)) (let h : place + 1 ≡ suc place = omega arith in h) ∙ take-suc-set seen place look l

pub refused_more : (seen : List Look) (place : ℕ) (look : Look) → place < length seen → All IsRefused (take place seen) → IsRefused look
    → All IsRefused (take (place + 1) (set seen place look))
refused_more seen place look l old new = subst (All IsRefused) (sym (taken_more seen place look l)) (All-append IsRefused (take place seen)
    (look ∷ []) old (one look new))
  where
    one : (x : Look) → IsRefused x → All IsRefused (x ∷ [])
    one x e zero d k = e
    one x e (suc i) d k = absurd (omega arith)

pub looks_more : (seen : List Look) (place : ℕ) (look : Look) → place < length seen
    → looks_from 0 (take place seen) ++ looks_at place look ≡ looks_from 0 (take (place + 1) (set seen place look))
looks_more seen place look l = let size = length-take-le place seen (omega arith) in ap (λ (z : ℕ). looks_from 0 (take place seen) ++ looks_at z look)
    (let h : place ≡ 0 + length (take place seen) = omega arith in h)
    ∙ sym (looks_from_more 0 (take place seen) look) ∙ sym (ap (looks_from 0) (taken_more seen place look l))

module _ {R : Type 0} where
  pub after_more : (v : View R) (l m : List (ℕ × ℕ)) → after_looks (after_looks v l) m ≡ after_looks v (l ++ m)
  after_more v l m i = record v { looks = append_assoc v.looks l m i }

  pub look_more : (v : View R) (l : List (ℕ × ℕ)) (p q w : ℕ) → q ≡ p → after_look (after_looks v l) p w ≡ after_looks v (l ++ (q, w) ∷ [])
  look_more v l p q w e i = record v { looks = (append_assoc v.looks l ((p, w) ∷ []) ∙ ap (λ (z : ℕ). v.looks ++ (l ++ (z, w) ∷ [])) (sym e)) i }
