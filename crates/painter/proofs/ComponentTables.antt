-- The tables of what the bits of a pixel keep of a held colour, and put into it.
use Rattle.std.proofs.Common.{◌≡◌, ℕ, zero, suc, ◌<◌, ◌&&◌, Bool, true, false, nat_eq, List, [], ◌∷◌, get_or, refl, sym, ◌∙◌, ap, arith}
use Rattle.std.proofs.lemmas.Bool.Decides.{nat_tests}
use Rattle.painter.specs.code.Held.{kept_bytes, new_bytes}

abbrev pub kept_entries : List ℕ
kept_entries =
    0 ∷ 0 ∷ 0 ∷ 0 ∷ 0 ∷ 0 ∷ 0 ∷ 0 ∷
    0 ∷ 0 ∷ 0 ∷ 0 ∷ 0 ∷ 0 ∷ 0 ∷ 0 ∷
    1099494916095 ∷ 1099494916095 ∷ 1099494916095 ∷ 1099494916095 ∷ 1099494916095 ∷ 1099494916095 ∷ 1099494916095 ∷ 1099494916095 ∷
    1099494916095 ∷ 1099494916095 ∷ 1099494916095 ∷ 1099494916095 ∷ 1099494916095 ∷ 1099494916095 ∷ 1099494916095 ∷ 1099494916095 ∷
    281470698520320 ∷ 281470698520320 ∷ 281470698520320 ∷ 281470698520320 ∷ 281470698520320 ∷ 281470698520320 ∷ 281470698520320 ∷ 281470698520320 ∷
    281470698520320 ∷ 281470698520320 ∷ 281470698520320 ∷ 281470698520320 ∷ 281470698520320 ∷ 281470698520320 ∷ 281470698520320 ∷ 281470698520320 ∷
    280379759984895 ∷ 280379759984895 ∷ 280379759984895 ∷ 280379759984895 ∷ 280379759984895 ∷ 280379759984895 ∷ 280379759984895 ∷ 280379759984895 ∷
    280379759984895 ∷ 280379759984895 ∷ 280379759984895 ∷ 280379759984895 ∷ 280379759984895 ∷ 280379759984895 ∷ 280379759984895 ∷ 280379759984895 ∷ []

abbrev pub new_entries : List ℕ
new_entries =
    0 ∷ 0 ∷ 0 ∷ 0 ∷ 0 ∷ 0 ∷ 0 ∷ 0 ∷
    0 ∷ 0 ∷ 0 ∷ 0 ∷ 0 ∷ 0 ∷ 0 ∷ 0 ∷
    0 ∷ 18691698786304 ∷ 37383397572608 ∷ 56075096358912 ∷ 74766795145216 ∷ 93458493931520 ∷ 112150192717824 ∷ 130841891504128 ∷
    149533590290432 ∷ 168225289076736 ∷ 186916987863040 ∷ 205608686649344 ∷ 224300385435648 ∷ 242992084221952 ∷ 261683783008256 ∷ 280375481794560 ∷
    0 ∷ 285212689 ∷ 570425378 ∷ 855638067 ∷ 1140850756 ∷ 1426063445 ∷ 1711276134 ∷ 1996488823 ∷
    2281701512 ∷ 2566914201 ∷ 2852126890 ∷ 3137339579 ∷ 3422552268 ∷ 3707764957 ∷ 3992977646 ∷ 4278190335 ∷
    0 ∷ 73014448384 ∷ 146028896768 ∷ 219043345152 ∷ 292057793536 ∷ 365072241920 ∷ 438086690304 ∷ 511101138688 ∷
    584115587072 ∷ 657130035456 ∷ 730144483840 ∷ 803158932224 ∷ 876173380608 ∷ 949187828992 ∷ 1022202277376 ∷ 1095216725760 ∷ []

-- the first so many entries, each looked at
all_as : List ℕ → (ℕ → ℕ) → ℕ → Bool
all_as entries wanted zero = true
all_as entries wanted (suc n) = nat_eq (get_or entries n 0) (wanted n) && all_as entries wanted n

first_as : (a b : Bool) → (a && b) ≡ true → a ≡ true
first_as true b is = refl
first_as false b is = is

rest_as : (a b : Bool) → (a && b) ≡ true → b ≡ true
rest_as true b is = is
rest_as false b is = cc

is_equal : (a b : ℕ) → nat_eq a b ≡ true → a ≡ b
is_equal a b is = grind (arith, nat_tests)

one_as : (entries : List ℕ) (wanted : ℕ → ℕ) (n k : ℕ) → all_as entries wanted n ≡ true → k < n → (b : Bool) → nat_eq (suc k) n ≡ b
    → get_or entries k 0 ≡ wanted k
unfolding all_as
one_as entries wanted zero k all lt b is = absurd (omega (arith, lt))
one_as entries wanted (suc n) k all lt true is =
    let last : k ≡ n = grind (arith, nat_tests) in
    let same : get_or entries n 0 ≡ wanted n =
    is_equal (get_or entries n 0) (wanted n) (first_as (nat_eq (get_or entries n 0) (wanted n)) (all_as entries wanted n) all) in
    ap (λ (j : ℕ). get_or entries j 0) last ∙ same ∙ ap wanted (sym last)
one_as entries wanted (suc n) k all lt false is =
    let before : k < n = grind (arith, nat_tests) in
    one_as entries wanted n k (rest_as (nat_eq (get_or entries n 0) (wanted n)) (all_as entries wanted n) all) before (nat_eq (suc k) n) refl

every_kept : all_as kept_entries (λ bits. kept_bytes bits) 64 ≡ true
unfolding all_as
every_kept = refl

every_new : all_as new_entries (λ bits. new_bytes bits) 64 ≡ true
unfolding all_as
every_new = refl

pub kept_of : (bits : ℕ) → bits < 64 → get_or kept_entries bits 0 ≡ kept_bytes bits
kept_of bits few = one_as kept_entries (λ n. kept_bytes n) 64 bits every_kept few (nat_eq (suc bits) 64) refl

pub new_of : (bits : ℕ) → bits < 64 → get_or new_entries bits 0 ≡ new_bytes bits
new_of bits few = one_as new_entries (λ n. new_bytes n) 64 bits every_new few (nat_eq (suc bits) 64) refl
