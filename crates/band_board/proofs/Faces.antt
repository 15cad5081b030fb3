-- What the word of a place says of its cell, and which cell an outstanding band has.
use Rattle.std.proofs.Common.{◌≡◌, ℕ, ◌+◌, ◌%◌, ◌<◌, ◌≤◌, get_or, sym, refl, ◌∙◌, lt_of_not-le, mod-lt, arith}
use mathlib.Core.Logic.{dite}
use native.Mathlib.Decide.{dec_le}
use Rattle.atomic_table.specs.Table.{State}
use Rattle.atomic_table.proofs.Lists.{one_turn}
use Rattle.band_board.specs.declared.view.View.{View}
use Rattle.band_board.specs.BoardRule.{Phase, vacant, offered, claimed, drawn, Cell, word_of, Slot, InPhase, Ruled}
use Rattle.band_board.specs.Steps.{OffersAt}

-- two numbers of one window of n, with one remainder, are one number
pub one_number : (low a b n : ℕ) → low ≤ a → a < low + n → low ≤ b → b < low + n → a % n ≡ b % n → a ≡ b
one_number low a b n la ha lb hb e = dite (dec_le a b) (λ le. one_turn a b n le (omega arith) e) (λ no. let lt = lt_of_not-le no in sym
    (one_turn b a n (omega arith) (omega arith) (sym e)))

-- the phase as a number, by which phases differ
abbrev pub tag : Phase → ℕ
tag vacant = 0
tag offered = 1
tag (claimed hand seat) = 2
tag (drawn hand) = 3

pub offered_word : (n word : ℕ) (ph : Phase) → word ≡ word_of n ph → word % 4 ≡ 1 → ph ≡ offered
offered_word n word vacant e m = absurd (omega arith)
offered_word n word offered e m = refl
offered_word n word (claimed hand seat) e m = absurd (omega arith)
offered_word n word (drawn hand) e m = absurd (omega arith)

pub drawn_word : (n word : ℕ) (ph : Phase) → word ≡ word_of n ph → word % 4 ≡ 3 → (hand : ℕ) × (ph ≡ drawn hand)
drawn_word n word vacant e m = absurd (omega arith)
drawn_word n word offered e m = absurd (omega arith)
drawn_word n word (claimed hand seat) e m = absurd (omega arith)
drawn_word n word (drawn hand) e m = (hand, refl)

module _ {R J D : Type 0} (jr : R → ℕ → J → Type 0) (dr : R → ℕ → D → Type 0) (run : R) where
  module _ (f : View R) (s : State (Slot J D) (View R)) (r : Ruled jr dr run f s) where
    -- an offered word is that of an outstanding band
    pub offers_at : (i word : ℕ) → i < 16 → word ≡ get_or s.words i 0 → word % 4 ≡ 1 → OffersAt i word
    offers_at i word near e m = let ok = r.each_cell i near in go (r.cells i) (e ∙ ok.shows) ok.lies ok.phase
      where
        go : (c : Cell) → word ≡ word_of c.0 c.1 → c.0 % 16 ≡ i → InPhase jr dr run f s.homes s.views i c.0 c.1 → OffersAt i word
        go c shows lies k = let is = offered_word c.0 word c.1 shows m in into c.0 c.1 shows lies k is
          where
            into : (n : ℕ) (ph : Phase) → word ≡ word_of n ph → n % 16 ≡ i → InPhase jr dr run f s.homes s.views i n ph → ph ≡ offered → OffersAt i word
            into n vacant shows lies k is = absurd (omega arith)
            into n offered shows lies k is = let small = r.small in let below = k.0.1 in (n, shows, lies, omega arith)
            into n (claimed hand seat) shows lies k is = absurd (omega arith)
            into n (drawn hand) shows lies k is = absurd (omega arith)

    -- the place of an outstanding band has its number
    pub outstanding_here : (n : ℕ) → f.collected ≤ n → n < f.published → (r.cells (n % 16)).0 ≡ n
    outstanding_here n low high = let ok = r.each_cell (n % 16) (mod-lt n (omega arith)) in go (r.cells (n % 16)).0 (r.cells (n % 16)).1 ok.lies ok.phase
      where
        go : (q : ℕ) (ph : Phase) → q % 16 ≡ n % 16 → InPhase jr dr run f s.homes s.views (n % 16) q ph → q ≡ n
        go q vacant lies k = let a = k.0 in let b = k.1 in one_number n q n 16 (omega arith) (omega arith) (omega arith) (omega arith) lies
        go q offered lies k = let a = k.0.0 in let b = k.0.1 in let w = r.within in one_number f.collected q n 16 a (omega arith) low (omega arith) lies
        go q (claimed hand seat) lies k = let a = k.0.0 in let b = k.0.1 in
            let w = r.within in one_number f.collected q n 16 a (omega arith) low (omega arith) lies
        go q (drawn hand) lies k = let a = k.0.0 in let b = k.0.1 in let w = r.within in one_number f.collected q n 16 a (omega arith) low (omega arith) lies

    -- the place of the next band is vacant, and has its number
    pub vacant_here : f.published < f.collected + 16 → ((r.cells (f.published % 16)).0 ≡ f.published) × ((r.cells (f.published % 16)).1 ≡ vacant)
    vacant_here room = let ok = r.each_cell (f.published % 16) (mod-lt f.published (omega arith)) in go (r.cells (f.published % 16)).0 (r.cells
        (f.published % 16)).1 ok.lies ok.phase
      where
        go : (q : ℕ) (ph : Phase) → q % 16 ≡ f.published % 16 → InPhase jr dr run f s.homes s.views (f.published % 16) q ph → (q ≡ f.published) × (ph ≡ vacant)
        go q vacant lies k = let a = k.0 in let b = k.1 in
            let h = r.behind in (one_number f.published q f.published 16 a (omega arith) (omega arith) (omega arith) lies, refl)
        go q offered lies k = let a = k.0.0 in let b = k.0.1 in let h = r.behind in
            let e : q ≡ f.published = one_number f.collected q f.published 16 a (omega arith) h room lies in absurd (omega arith)
        go q (claimed hand seat) lies k = let a = k.0.0 in let b = k.0.1 in let h = r.behind in
            let e : q ≡ f.published = one_number f.collected q f.published 16 a (omega arith) h room lies in absurd (omega arith)
        go q (drawn hand) lies k = let a = k.0.0 in let b = k.0.1 in let h = r.behind in
            let e : q ≡ f.published = one_number f.collected q f.published 16 a (omega arith) h room lies in absurd (omega arith)
