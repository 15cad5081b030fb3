-- What a turn of a hand comes to.
use Rattle.std.proofs.Common.{◌≡◌, ℕ, Bool, true, false, if◌then◌else◌, List, [], ◌∷◌, ◌++◌, ap, ◌∙◌, sym, subst, Some, append_assoc}
use Rattle.band_board.specs.declared.view.View.{View}
use Rattle.band_board.specs.View.{after_look, after_claim, after_delivery}
use Rattle.band_board.specs.Answers.{after_looks, looks_from}
use Rattle.crew.specs.Hands.{HasLooked, IsSameHand, LooksInVain, Draws, EndsIdle}

module _ {R : Type 0} where
  -- a hand that claimed a band and delivered it has looked on
  pub delivered : (old claimed new : View R) (looks : List (ℕ × ℕ)) (n : ℕ) → claimed ≡ after_claim (after_looks old looks) n
      → ((m : ℕ) → claimed.claim ≡ Some m → new ≡ after_delivery claimed m) → HasLooked old new
  delivered old claimed new looks n claims delivers = record {
    more = looks;
    looks = ap (λ (v : View R). v.looks) (delivers n (ap (λ (v : View R). v.claim) claims)) ∙ ap (λ (v : View R). v.looks) claims;
  }

  -- and is the same hand
  pub same_hand : (old claimed new : View R) (looks : List (ℕ × ℕ)) (n : ℕ) → claimed ≡ after_claim (after_looks old looks) n
      → ((m : ℕ) → claimed.claim ≡ Some m → new ≡ after_delivery claimed m) → IsSameHand old new
  same_hand old claimed new looks n claims delivers =
      let delivery = delivers n (ap (λ (v : View R). v.claim) claims) in (
        ap (λ (v : View R). v.hand) delivery ∙ ap (λ (v : View R). v.hand) claims,
        ap (λ (v : View R). v.run) delivery ∙ ap (λ (v : View R). v.run) claims,
      )

one_list : {X : Type 0} (first more old turned next new : List X) (look : X) → old ≡ first ++ more → turned ≡ old ++ look ∷ [] → new ≡ turned ++ next
    → new ≡ first ++ (more ++ look ∷ next)
one_list {X} first more old turned next new look was looked went =
    went ∙ ap (λ (xs : List X). xs ++ next) (looked ∙ ap (λ (xs : List X). xs ++ look ∷ []) was)
    ∙ append_assoc (first ++ more) (look ∷ []) next ∙ append_assoc first more (look ∷ next)

module _ {R : Type 0} where
  -- a hand that had looked, and looked once more before its turn, has looked on
  pub looked_on : (first old turned new : View R) (place word : ℕ) (drew : Bool) → HasLooked first old → turned ≡ after_look old place word
      → Draws turned new drew → HasLooked first new
  looked_on first old turned new place word true had looked drawn = record {
    more = had.more ++ (place, word) ∷ drawn.more;
    looks =
        one_list first.looks had.more old.looks turned.looks drawn.more new.looks (place, word) had.looks (ap (λ (v : View R). v.looks) looked) drawn.looks;
  }
  looked_on first old turned new place word false had looked vain = record {
    more = had.more ++ (place, word) ∷ looks_from 0 vain.seen;
    looks =
        one_list first.looks had.more old.looks turned.looks (looks_from 0 vain.seen) new.looks (place, word) had.looks
        (ap (λ (v : View R). v.looks) looked) vain.looks;
  }

  -- and is the same hand
  pub same_on : (first old turned new : View R) (place word : ℕ) → IsSameHand first old → turned ≡ after_look old place word
      → IsSameHand turned new → IsSameHand first new
  same_on first old turned new place word was looked is = (
    is.0 ∙ ap (λ (v : View R). v.hand) looked ∙ was.0,
    is.1 ∙ ap (λ (v : View R). v.run) looked ∙ was.1,
  )

  -- where it saw the close, and then drew nothing, it ends idle
  pub ends_idle : (first old turned new : View R) (closed drew : Bool) → HasLooked first old
      → turned ≡ after_look old 16 (if closed then 1 else 0) → closed ≡ true → drew ≡ false → Draws turned new drew → EndsIdle first new
  ends_idle first old turned new closed drew had looked is_closed none drawn =
      let vain : LooksInVain [] turned new = subst (λ b. Draws turned new b) none drawn in
      let last = subst (λ b. turned ≡ after_look old 16 (if b then 1 else 0)) is_closed looked in (
        had.more,
        record {
          seen = vain.seen;
          sixteen = vain.sixteen;
          refused = vain.refused;
          looks =
              one_list first.looks had.more old.looks turned.looks (looks_from 0 vain.seen) new.looks (16, 1) had.looks
              (ap (λ (v : View R). v.looks) last) vain.looks
              ∙ ap (λ (xs : List (ℕ × ℕ)). first.looks ++ xs) (sym (append_assoc had.more ((16, 1) ∷ []) (looks_from 0 vain.seen)));
        },
      )
