-- The collisions of a pixel are those of its playfields alone, with those of the pairs that are present.
use Rattle.std.proofs.Common.{◌≡◌, ℕ, zero, suc, ◌+◌, ◌*◌, ◌%◌, ◌<◌, ◌≤◌, Bool, true, false, not, ◌&&◌, ◌||◌}
use Rattle.std.proofs.Common.{nat_eq, List, [], ◌∷◌, slice_index, replicate, refl, sym, ◌∙◌, ap, subst, arith}
use Rattle.std.specs.Bool.{if◌then◌else◌}
use Rattle.std.proofs.lemmas.Bool.Decides.{nat_tests}
use Rattle.collisions.specs.Collision.{bit, playfield_matches, is_present, number_of, collisions_among, collision_bits}
use Rattle.sprite_rows.specs.PairCollision.{is_byte_present, present_pairs, worth_of_playfields, among_pairs}

-- the table of what pairs meet among one another
abbrev pub entries : List ℕ
entries =
    0 ∷ 0 ∷ 0 ∷ 512 ∷ 0 ∷ 1024 ∷ 4096 ∷ 5632 ∷ 0 ∷ 2048 ∷ 8192 ∷ 10752 ∷ 16384 ∷ 19456 ∷ 28672 ∷ 32256 ∷ []

pub among_entry : (present : ℕ) → present < 16 → slice_index entries present ≡ among_pairs present
among_entry zero h = refl
among_entry (suc zero) h = refl
among_entry (suc (suc zero)) h = refl
among_entry (suc (suc (suc zero))) h = refl
among_entry (suc (suc (suc (suc zero)))) h = refl
among_entry (suc (suc (suc (suc (suc zero))))) h = refl
among_entry (suc (suc (suc (suc (suc (suc zero)))))) h = refl
among_entry (suc (suc (suc (suc (suc (suc (suc zero))))))) h = refl
among_entry (suc (suc (suc (suc (suc (suc (suc (suc zero)))))))) h = refl
among_entry (suc (suc (suc (suc (suc (suc (suc (suc (suc zero))))))))) h = refl
among_entry (suc (suc (suc (suc (suc (suc (suc (suc (suc (suc zero)))))))))) h = refl
among_entry (suc (suc (suc (suc (suc (suc (suc (suc (suc (suc (suc zero))))))))))) h = refl
among_entry (suc (suc (suc (suc (suc (suc (suc (suc (suc (suc (suc (suc zero)))))))))))) h = refl
among_entry (suc (suc (suc (suc (suc (suc (suc (suc (suc (suc (suc (suc (suc zero))))))))))))) h = refl
among_entry (suc (suc (suc (suc (suc (suc (suc (suc (suc (suc (suc (suc (suc (suc zero)))))))))))))) h = refl
among_entry (suc (suc (suc (suc (suc (suc (suc (suc (suc (suc (suc (suc (suc (suc (suc zero))))))))))))))) h = refl
among_entry (suc (suc (suc (suc (suc (suc (suc (suc (suc (suc (suc (suc (suc (suc (suc (suc n)))))))))))))))) h = absurd (omega arith)

-- what a playfield that matches is worth
abbrev pub worth : Bool → Bool → ℕ
worth one two = (if one then 2 else 0) + (if two then 32 else 0)

meet : (one two a b c d : Bool) → number_of (collisions_among one two a b c d)
    ≡ number_of (collisions_among one two false false false false) + worth one two * number_of (a ∷ b ∷ c ∷ d ∷ [])
    + among_pairs (number_of (a ∷ b ∷ c ∷ d ∷ []))
meet true true true true true true = refl
meet true true true true true false = refl
meet true true true true false true = refl
meet true true true true false false = refl
meet true true true false true true = refl
meet true true true false true false = refl
meet true true true false false true = refl
meet true true true false false false = refl
meet true true false true true true = refl
meet true true false true true false = refl
meet true true false true false true = refl
meet true true false true false false = refl
meet true true false false true true = refl
meet true true false false true false = refl
meet true true false false false true = refl
meet true true false false false false = refl
meet true false true true true true = refl
meet true false true true true false = refl
meet true false true true false true = refl
meet true false true true false false = refl
meet true false true false true true = refl
meet true false true false true false = refl
meet true false true false false true = refl
meet true false true false false false = refl
meet true false false true true true = refl
meet true false false true true false = refl
meet true false false true false true = refl
meet true false false true false false = refl
meet true false false false true true = refl
meet true false false false true false = refl
meet true false false false false true = refl
meet true false false false false false = refl
meet false true true true true true = refl
meet false true true true true false = refl
meet false true true true false true = refl
meet false true true true false false = refl
meet false true true false true true = refl
meet false true true false true false = refl
meet false true true false false true = refl
meet false true true false false false = refl
meet false true false true true true = refl
meet false true false true true false = refl
meet false true false true false true = refl
meet false true false true false false = refl
meet false true false false true true = refl
meet false true false false true false = refl
meet false true false false false true = refl
meet false true false false false false = refl
meet false false true true true true = refl
meet false false true true true false = refl
meet false false true true false true = refl
meet false false true true false false = refl
meet false false true false true true = refl
meet false false true false true false = refl
meet false false true false false true = refl
meet false false true false false false = refl
meet false false false true true true = refl
meet false false false true true false = refl
meet false false false true false true = refl
meet false false false true false false = refl
meet false false false false true true = refl
meet false false false false true false = refl
meet false false false false false true = refl
meet false false false false false false = refl

quiet_and_worth-le : (one two : Bool) →
    (number_of (collisions_among one two false false false false) ≤ 1) × (worth one two ≤ 34)
quiet_and_worth-le true true = (omega arith, omega arith)
quiet_and_worth-le true false = (omega arith, omega arith)
quiet_and_worth-le false true = (omega arith, omega arith)
quiet_and_worth-le false false = (omega arith, omega arith)

-- the law of the bits
pub collision_bits-is : (con bits : ℕ) (values : List ℕ) → collision_bits con bits values
    ≡ collision_bits con bits (replicate 8 0) + worth_of_playfields con bits * present_pairs con values + among_pairs (present_pairs con values)
unfolding collision_bits worth_of_playfields present_pairs
collision_bits-is con bits values =
    meet (playfield_matches con bits 1) (playfield_matches con bits 2)
    (is_present con values 0) (is_present con values 1) (is_present con values 2) (is_present con values 3)

pub quiet-le : (con bits : ℕ) → collision_bits con bits (replicate 8 0) ≤ 1
unfolding collision_bits
quiet-le con bits = (quiet_and_worth-le (playfield_matches con bits 1) (playfield_matches con bits 2)).0

pub worth_of_playfields-le : (con bits : ℕ) → worth_of_playfields con bits ≤ 34
unfolding worth_of_playfields
worth_of_playfields-le con bits = (quiet_and_worth-le (playfield_matches con bits 1) (playfield_matches con bits 2)).1

-- a sprite of pair 0 alone adds what the playfields are worth
pub first_pair : (con bits : ℕ) → collision_bits con bits (1 ∷ 0 ∷ 0 ∷ 0 ∷ 0 ∷ 0 ∷ 0 ∷ 0 ∷ [])
    ≡ collision_bits con bits (replicate 8 0) + worth_of_playfields con bits
unfolding present_pairs
first_pair con bits =
    collision_bits-is con bits (1 ∷ 0 ∷ 0 ∷ 0 ∷ 0 ∷ 0 ∷ 0 ∷ 0 ∷ []) ∙ omega arith

-- a pair is present by its byte as by its sprites' values
there : (counts : Bool) (even odd : ℕ) → even ≤ 3 →
    not (nat_eq (if counts then 4 * odd + even else (4 * odd + even) % 4) 0) ≡ (not (nat_eq even 0) || (not (nat_eq odd 0) && counts))
there true even odd small = grind (arith, nat_tests)
there false even odd small = grind (arith, nat_tests)

pub present_by_byte : (con : ℕ) (values : List ℕ) (pair byte : ℕ) → slice_index values (2 * pair) ≤ 3 →
    byte ≡ 4 * slice_index values (2 * pair + 1) + slice_index values (2 * pair) →
    is_byte_present con pair byte ≡ is_present con values pair
present_by_byte con values pair byte small is =
    ap (is_byte_present con pair) is
    ∙ there (nat_eq (bit (pair + 12) con) 1) (slice_index values (2 * pair)) (slice_index values (2 * pair + 1)) small

pub present_by_bytes : (con : ℕ) (values : List ℕ) (a b c d : ℕ) → ((k : ℕ) → slice_index values k ≤ 3) →
    a ≡ 4 * slice_index values 1 + slice_index values 0 → b ≡ 4 * slice_index values 3 + slice_index values 2 →
    c ≡ 4 * slice_index values 5 + slice_index values 4 → d ≡ 4 * slice_index values 7 + slice_index values 6 →
    number_of (is_byte_present con 0 a ∷ is_byte_present con 1 b ∷ is_byte_present con 2 c ∷ is_byte_present con 3 d ∷ [])
    ≡ present_pairs con values
unfolding present_pairs
present_by_bytes con values a b c d few a_is b_is c_is d_is =
    rw (
      present_by_byte con values 0 a (few 0) a_is,
      present_by_byte con values 1 b (few 2) b_is,
      present_by_byte con values 2 c (few 4) c_is,
      present_by_byte con values 3 d (few 6) d_is,
    ) refl

-- the bits by the three parts
pub collisions_by_parts : (con bits : ℕ) (values : List ℕ) (quiet worth present : ℕ) → present < 16 →
    quiet ≡ collision_bits con bits (replicate 8 0) → worth ≡ worth_of_playfields con bits → present ≡ present_pairs con values →
    quiet + worth * present + slice_index entries present ≡ collision_bits con bits values
collisions_by_parts con bits values quiet worth present few quiet_is worth_is present_is =
    let P : ℕ → Type 0 = λ (n : ℕ). quiet + worth * present + n ≡ collision_bits con bits values in
    subst P (sym (among_entry present few))
    (rw (quiet_is, worth_is, present_is) (sym (collision_bits-is con bits values)))
