-- The clocks of a rewind, word by word.
use Rattle.std.proofs.Common.{◌≡◌, ℕ, ◌+◌, ◌&&◌, Bool, true, false, if◌then◌else◌, nat_le, get_or, ◌<◌, ◌≤◌, List, []}
use Rattle.std.proofs.Common.{◌∷◌, ◌++◌, length, drop, map, Option, Some, None}
use Rattle.std.proofs.Common.{refl, sym, ap, subst, ◌∙◌, append_assoc, append-nil, length-append, arith}
use Rattle.std.proofs.lemmas.List.{drop_more, drop_all, get_or-map, length-map}
use Rattle.ocs_words.specs.RewindOrder.{clock_of, with_first, all_clocks, clocks_of}

-- clocks before others
abbrev pub with_front : List ℕ → Option (List ℕ) → Option (List ℕ)
with_front front None = None
with_front front (Some clocks) = Some (front ++ clocks)

front_none : (clocks : Option (List ℕ)) → with_front [] clocks ≡ clocks
front_none None = refl
front_none (Some clocks) = refl

front_more : (front : List ℕ) (clock : ℕ) (clocks : Option (List ℕ))
    → with_front (front ++ clock ∷ []) clocks ≡ with_front front (with_first (Some clock) clocks)
front_more front clock None = refl
front_more front clock (Some clocks) = ap Some (append_assoc front (clock ∷ []) clocks)

-- what the words are, where the first of them were read
pub record AreRead (texts : List (List ℕ)) (count : ℕ) (clocks : List ℕ) : Type 0 where
  pub number : length clocks ≡ count
  pub rest : all_clocks texts ≡ with_front clocks (all_clocks (drop count texts))

pub read_none : (texts : List (List ℕ)) (clocks : List ℕ) → clocks ≡ [] → AreRead texts 0 clocks
read_none texts clocks is = subst (λ c. AreRead texts 0 c) (sym is) (record {
  number = refl;
  rest = sym (front_none (all_clocks texts));
})

module _ {X : Type 0} (f : X → List ℕ) (texts : List X) (count : ℕ) (clocks : List ℕ) (text : X) (is : AreRead (map f texts) count clocks)
    (inside : count < length texts) (there : text ≡ get_or texts count text) where
  here : drop count (map f texts) ≡ f text ∷ drop (count + 1) (map f texts)
  here =
      drop_more (map f texts) count (f text) (subst (λ n. count < n) (sym (length-map texts f)) inside)
      ∙ ap (λ t. t ∷ drop (count + 1) (map f texts)) (get_or-map f texts count text (f text) inside ∙ ap f (sym there))

  -- one clock more was read
  pub read_more : (clock : ℕ) (after : List ℕ) → clock_of (f text) ≡ Some clock → after ≡ clocks ++ clock ∷ []
      → AreRead (map f texts) (count + 1) after
  read_more clock after read more = subst (λ c. AreRead (map f texts) (count + 1) c) (sym more) (record {
    number = omega (arith, is.number, length-append clocks (clock ∷ []));
    rest = is.rest
        ∙ ap (λ ts. with_front clocks (all_clocks ts)) here
        ∙ ap (λ c. with_front clocks (with_first c (all_clocks (drop (count + 1) (map f texts))))) read
        ∙ sym (front_more clocks clock (all_clocks (drop (count + 1) (map f texts))));
  })

  -- a word that is no clock
  pub read_bad : clock_of (f text) ≡ None → all_clocks (map f texts) ≡ None
  read_bad bad =
      is.rest
      ∙ ap (λ ts. with_front clocks (all_clocks ts)) here
      ∙ ap (λ c. with_front clocks (with_first c (all_clocks (drop (count + 1) (map f texts))))) bad

-- all of them
pub read_all : (texts : List (List ℕ)) (count : ℕ) (clocks : List ℕ) → AreRead texts count clocks → length texts ≤ count
    → all_clocks texts ≡ Some clocks
read_all texts count clocks is past =
    is.rest ∙ ap (λ ts. with_front clocks (all_clocks ts)) (drop_all count texts past) ∙ ap Some (append-nil clocks)

if_none : (test : Bool) (clocks : Option (List ℕ)) → clocks ≡ None → (if test then clocks else None) ≡ None
if_none true clocks none = none
if_none false clocks none = refl

pub none_of : (texts : List (List ℕ)) → all_clocks texts ≡ None → clocks_of texts ≡ None
none_of texts none = if_none (nat_le 1 (length texts) && nat_le (length texts) 16) (all_clocks texts) none
