-- A channel that moves after each word and each row stands where its address is by one expression.
use Rattle.std.proofs.Common.{arith, ◌≡◌, ℕ, ◌+◌, ◌*◌, ◌%◌, ◌<◌, bit_and, Bool, true, false, if◌then◌else◌, ℤ, pos, ◌+ℤ◌, ◌*ℤ◌, unsigned_abs, subst, sym, ap, ◌∙◌, refl}
use Rattle.std.specs.Int.{int_rem_euclid}
use Rattle.std.proofs.lemmas.Int.{ints}
use Rattle.std.proofs.lemmas.Nat.{and_mask}
use Rattle.std.proofs.Math.IntN.{suc_ℤ, suc_ℤ-*ℤ}
use Rattle.ocs_base.specs.Sizes.{bytes_of}
use Rattle.ocs_base.specs.Span.{span_of}
use Rattle.ocs_base.specs.declared.addr.Addr.{Addr}
use Rattle.ocs_base.specs.declared.chip_size.ChipSize.{ChipSize}
use Rattle.ocs_base.specs.declared.chip_size.ChipSize.TheVariants.{Kib512, Mib1}
use Rattle.blit_words.specs.declared.blit.BlitRegs.{BlitRegs}
use Rattle.blit_words.specs.declared.blit.WordAsk.{WordAsk}
use Rattle.blit_words.specs.declared.blit.WordAsk.TheVariants.{A, B, C, D}
use Rattle.blit_words.specs.Blit.{width_of, even_part, address_on}
use Rattle.blit_words.specs.AreaBlit.{is_used, is_descending, modulo_of, pointer_of, opposite_if, way_to, address_of}
use Rattle.ocs_base.proofs.Addresses.{same_addr}
use Rattle.blit_words.proofs.Addresses.{address_is}
use Rattle.blitter_area.specs.declared.channel.Pointers.{Pointers}
use Rattle.blitter_area.specs.Pointing.{Lane, lane_a, lane_b, lane_c, lane_d, AreAt, HaveMoved, IsAt, IsMade, HasMoved, address_number, way_if}
use Rattle.blitter_area.specs.Spans.{within_span, IsInside, IsLane}
use Rattle.blitter_area.proofs.Remainders.{rem_add_any}

opposite_next : (d : Bool) (n : ℕ) (z : ℤ) → opposite_if d (pos (2 * (n + 1)) +ℤ z) ≡ opposite_if d (pos (2 * n) +ℤ z) +ℤ opposite_if d (pos 2)
opposite_next true n z = omega (arith, ints)
opposite_next false n z = omega (arith, ints)

opposite_add : (d : Bool) (y z : ℤ) → opposite_if d (y +ℤ z) ≡ opposite_if d y +ℤ opposite_if d z
opposite_add true y z = omega (arith, ints)
opposite_add false y z = omega (arith, ints)

mul_more : (r : ℕ) (m : ℤ) → pos (r + 1) *ℤ m ≡ pos r *ℤ m +ℤ m
mul_more r m =
    let e : pos (r + 1) ≡ suc_ℤ (pos r) = ap pos (omega arith) in
    ap (λ (z : ℤ). z *ℤ m) e ∙ suc_ℤ-*ℤ (pos r) m

way_next : (s : BlitRegs) (x : WordAsk) (r c : ℕ) → way_to s x r (c + 1) ≡ way_to s x r c +ℤ opposite_if (is_descending s) (pos 2)
way_next s x r c =
    let d = is_descending s in
    let z = pos r *ℤ even_part (modulo_of s x) in
    let e : r * width_of s + (c + 1) ≡ r * width_of s + c + 1 = omega arith in
    ap (λ (n : ℕ). opposite_if d (pos (2 * n) +ℤ z)) e ∙ opposite_next d (r * width_of s + c) z

way_over : (s : BlitRegs) (x : WordAsk) (r c : ℕ) → c ≡ width_of s
    → way_to s x (r + 1) 0 ≡ way_to s x r c +ℤ opposite_if (is_descending s) (even_part (modulo_of s x))
way_over s x r c whole =
    let d = is_descending s in
    let m = even_part (modulo_of s x) in
    let e : (r + 1) * width_of s + 0 ≡ r * width_of s + c = omega arith in
    let sum : pos (2 * (r * width_of s + c)) +ℤ (pos r *ℤ m +ℤ m) ≡ (pos (2 * (r * width_of s + c)) +ℤ pos r *ℤ m) +ℤ m = omega (arith, ints) in
    ap (λ (n : ℕ). opposite_if d (pos (2 * n) +ℤ pos (r + 1) *ℤ m)) e
    ∙ ap (λ (z : ℤ). opposite_if d (pos (2 * (r * width_of s + c)) +ℤ z)) (mul_more r m)
    ∙ ap (opposite_if d) sum
    ∙ opposite_add d (pos (2 * (r * width_of s + c)) +ℤ pos r *ℤ m) m

abbrev modulo_span : ChipSize → ℤ → ℤ
modulo_span size z = int_rem_euclid z (pos (bytes_of size))

span_of_sum : (size : ChipSize) (z y : ℤ) → modulo_span size (modulo_span size z +ℤ y) ≡ modulo_span size (z +ℤ y)
span_of_sum Kib512 z y = rem_add_any 524287 z y
span_of_sum Mib1 z y = rem_add_any 1048575 z y

within_span_is : (size : ChipSize) (n : ℕ) → n < bytes_of size → modulo_span size (pos n) ≡ pos n
within_span_is Kib512 n low = let whole : n % 524288 ≡ n = omega arith in ap pos whole
within_span_is Mib1 n low = let whole : n % 1048576 ≡ n = omega arith in ap pos whole

sum_of_span : (size : ChipSize) (z y : ℤ) → modulo_span size (z +ℤ modulo_span size y) ≡ modulo_span size (z +ℤ y)
sum_of_span size z y =
    let turned : z +ℤ modulo_span size y ≡ modulo_span size y +ℤ z = omega (arith, ints) in
    let back : y +ℤ z ≡ z +ℤ y = omega (arith, ints) in
    ap (modulo_span size) turned ∙ span_of_sum size y z ∙ ap (modulo_span size) back

-- a number of bytes modulo a span is that of it as a whole number
natural : (size : ChipSize) (n : ℕ) → pos (n % bytes_of size) ≡ modulo_span size (pos n)
natural Kib512 n = refl
natural Mib1 n = refl

moves : (size : ChipSize) (base at to : ℕ) (way way' step : ℤ)
    → pos at ≡ modulo_span size (pos base +ℤ way)
    → pos to ≡ modulo_span size (pos at +ℤ step)
    → way' ≡ way +ℤ step
    → pos to ≡ modulo_span size (pos base +ℤ way')
moves size base at to way way' step at_is to_is way_is =
    let sum : (pos base +ℤ way) +ℤ step ≡ pos base +ℤ (way +ℤ step) = omega (arith, ints) in
    to_is
    ∙ ap (λ (z : ℤ). modulo_span size (z +ℤ step)) at_is
    ∙ span_of_sum size (pos base +ℤ way) step
    ∙ ap (modulo_span size) sum
    ∙ ap (λ (z : ℤ). modulo_span size (pos base +ℤ z)) (sym way_is)

-- a number that moved by a step of its channel, and then stands where the way is so much longer
stepped : (s : BlitRegs) (k : WordAsk) (r c r' c' at to bytes : ℕ) (step : ℤ)
    → way_to s k r' c' ≡ way_to s k r c +ℤ step
    → pos at ≡ address_number s k r c
    → pos to ≡ modulo_span (pointer_of s k).size (pos at +ℤ pos bytes)
    → pos bytes ≡ modulo_span (pointer_of s k).size (if is_used s k then step else pos 0)
    → pos to ≡ address_number s k r' c'
unfolding address_number
stepped s k r c r' c' at to bytes step way_is at_is to_is bytes_is =
    let base : ℕ = (pointer_of s k).value in
    let size : ChipSize = (pointer_of s k).size in
    let stays : pos base +ℤ pos 0 ≡ pos base = omega (arith, ints) in
    elim (is_used s k) as (λ (u : Bool). pos at ≡ (if u then modulo_span size (pos base +ℤ way_to s k r c) else pos base)
    → pos bytes ≡ modulo_span size (if u then step else pos 0)
    → pos to ≡ (if u then modulo_span size (pos base +ℤ way_to s k r' c') else pos base)) [
      | true ↦ (λ a b.
          moves size base at to _ _ step a
          (to_is ∙ ap (λ (z : ℤ). modulo_span size (pos at +ℤ z)) b ∙ sum_of_span size (pos at) step) way_is)
      | false ↦ (λ a b.
          to_is
          ∙ ap (λ (z : ℤ). modulo_span size (z +ℤ pos bytes)) a
          ∙ ap (λ (z : ℤ). modulo_span size (pos base +ℤ z)) b
          ∙ sum_of_span size (pos base) (pos 0)
          ∙ ap (modulo_span size) stays
          ∙ within_span_is size base (pointer_of s k).below)
    ] at_is bytes_is

-- where the channel stands in the span of a pointer, it moved modulo that span
in_span : (x x' : Lane) (bytes : ℕ) (size : ChipSize) → HasMoved x x' bytes → x.at.size ≡ size
    → pos x'.at.value ≡ modulo_span size (pos x.at.value +ℤ pos bytes)
in_span x x' bytes size moved is =
    ap pos (moved.value ∙ ap (λ (k : ChipSize). (x.at.value + bytes) % bytes_of k) is) ∙ natural size (x.at.value + bytes)

pub moved_word : (s : BlitRegs) (k : WordAsk) (r c : ℕ) (x x' : Lane) → IsAt x s k r c → HasMoved x x' x.forward → IsAt x' s k r (c + 1)
moved_word s k r c x x' is moved =
    let to_is = in_span x x' x.forward (pointer_of s k).size moved is.size in
    record {
      address = stepped s k r c r (c + 1) x.at.value x'.at.value x.forward _ (way_next s k r c) is.address to_is is.forward;
      size = moved.size ∙ is.size;
      forward = ap pos moved.forward ∙ is.forward;
      over = ap pos moved.over ∙ is.over;
    }

pub moved_row : (s : BlitRegs) (k : WordAsk) (r c : ℕ) (x x' : Lane) → c ≡ width_of s → IsAt x s k r c → HasMoved x x' x.over
    → IsAt x' s k (r + 1) 0
moved_row s k r c x x' whole is moved =
    let to_is = in_span x x' x.over (pointer_of s k).size moved is.size in
    record {
      address = stepped s k r c (r + 1) 0 x.at.value x'.at.value x.over _ (way_over s k r c whole) is.address to_is is.over;
      size = moved.size ∙ is.size;
      forward = ap pos moved.forward ∙ is.forward;
      over = ap pos moved.over ∙ is.over;
    }

pub all_moved_word : (s : BlitRegs) (r c : ℕ) (p p' : Pointers) → AreAt p s r c → HaveMoved p p' p.forward → AreAt p' s r (c + 1)
all_moved_word s r c p p' is moved = record {
  of_a = moved_word s A r c (lane_a p) (lane_a p') is.of_a moved.of_a;
  of_b = moved_word s B r c (lane_b p) (lane_b p') is.of_b moved.of_b;
  of_c = moved_word s C r c (lane_c p) (lane_c p') is.of_c moved.of_c;
  of_d = moved_word s D r c (lane_d p) (lane_d p') is.of_d moved.of_d;
}

pub all_moved_row : (s : BlitRegs) (r c : ℕ) (p p' : Pointers) → c ≡ width_of s → AreAt p s r c → HaveMoved p p' p.over → AreAt p' s (r + 1) 0
all_moved_row s r c p p' whole is moved = record {
  of_a = moved_row s A r c (lane_a p) (lane_a p') whole is.of_a moved.of_a;
  of_b = moved_row s B r c (lane_b p) (lane_b p') whole is.of_b moved.of_b;
  of_c = moved_row s C r c (lane_c p) (lane_c p') whole is.of_c moved.of_c;
  of_d = moved_row s D r c (lane_d p) (lane_d p') whole is.of_d moved.of_d;
}

opposite_zero : (d : Bool) → opposite_if d (pos 0) ≡ pos 0
opposite_zero true = refl
opposite_zero false = refl

first_way : (s : BlitRegs) (k : WordAsk) → way_to s k 0 0 ≡ pos 0
first_way s k =
    let m = even_part (modulo_of s k) in
    let e : 0 * width_of s + 0 ≡ 0 = omega arith in
    let none : pos 0 *ℤ m ≡ pos 0 = omega (arith, ints) in
    ap (λ (n : ℕ). opposite_if (is_descending s) (pos (2 * n) +ℤ pos 0 *ℤ m)) e
    ∙ ap (λ (z : ℤ). opposite_if (is_descending s) (pos 0 +ℤ z)) none
    ∙ opposite_zero (is_descending s)

first_number : (s : BlitRegs) (k : WordAsk) → address_number s k 0 0 ≡ pos (pointer_of s k).value
unfolding address_number
first_number s k =
    let base : ℕ = (pointer_of s k).value in
    let size : ChipSize = (pointer_of s k).size in
    let sum : pos base +ℤ pos 0 ≡ pos base = omega (arith, ints) in
    let at : modulo_span size (pos base +ℤ way_to s k 0 0) ≡ pos base =
    ap (λ (z : ℤ). modulo_span size (pos base +ℤ z)) (first_way s k)
    ∙ ap (modulo_span size) sum
    ∙ within_span_is size base (pointer_of s k).below in
    elim (is_used s k) as (λ (b : Bool). (if b then modulo_span size (pos base +ℤ way_to s k 0 0) else pos base) ≡ pos base) [
      | true ↦ at
      | false ↦ refl
    ]

-- at its pointer a channel stands at the first word
pub at_first : (s : BlitRegs) (k : WordAsk) (x : Lane) (used descending : Bool) (modulo : ℤ)
    → IsMade x (pointer_of s k) used modulo descending
    → used ≡ is_used s k
    → modulo ≡ modulo_of s k
    → descending ≡ is_descending s
    → IsAt x s k 0 0
at_first s k x used descending modulo is used_is modulo_is descending_is = record {
  address = ap (λ (a : Addr). pos a.value) is.pointer ∙ sym (first_number s k);
  size = ap (λ (a : Addr). a.size) is.pointer;
  forward =
      is.forward
      ∙ ap (λ (u : Bool). within_span (pointer_of s k) (way_if u descending (pos 2))) used_is
      ∙ ap (λ (d : Bool). within_span (pointer_of s k) (way_if (is_used s k) d (pos 2))) descending_is;
  over =
      is.over
      ∙ ap (λ (u : Bool). within_span (pointer_of s k) (way_if u descending (even_part modulo))) used_is
      ∙ ap (λ (d : Bool). within_span (pointer_of s k) (way_if (is_used s k) d (even_part modulo))) descending_is
      ∙ ap (λ (z : ℤ). within_span (pointer_of s k) (way_if (is_used s k) (is_descending s) (even_part z))) modulo_is;
}

-- the address itself
pub address_at : (s : BlitRegs) (k : WordAsk) (r c : ℕ) (x : Lane) → IsAt x s k r c → x.at ≡ address_of s k r c
unfolding address_number address_of
address_at s k r c x is =
    let base : Addr = pointer_of s k in
    elim (is_used s k) as (λ (b : Bool). pos x.at.value ≡ (if b then modulo_span base.size (pos base.value +ℤ way_to s k r c) else pos base.value)
    → x.at ≡ (if b then address_on base (way_to s k r c) else base)) [
      | true ↦ (λ h. address_is base x.at (way_to s k r c) h is.size)
      | false ↦ (λ h. same_addr x.at base (ap unsigned_abs h) is.size)
    ] is.address

-- ---- what the code of a step owes

pub masked : (at : Addr) (mask bytes : ℕ) → mask + 1 ≡ span_of at → bit_and (at.value + bytes) mask ≡ (at.value + bytes) % span_of at
masked at mask bytes is =
    elim at.size as (λ (k : ChipSize). mask + 1 ≡ bytes_of k → bit_and (at.value + bytes) mask ≡ (at.value + bytes) % bytes_of k) [
      | Kib512 ↦ (λ e. let m : mask ≡ 524287 = omega (arith, e) in ap (bit_and (at.value + bytes)) m ∙ and_mask (at.value + bytes) 19)
      | Mib1 ↦ (λ e. let m : mask ≡ 1048575 = omega (arith, e) in ap (bit_and (at.value + bytes)) m ∙ and_mask (at.value + bytes) 20)
    ] is

pub even_rest : (size : ChipSize) (n : ℕ) → n % 2 ≡ 0 → n % bytes_of size % 2 ≡ 0
even_rest Kib512 n even = omega (arith, even)
even_rest Mib1 n even = omega (arith, even)

pub below_span : (size : ChipSize) (n : ℕ) → n % bytes_of size < bytes_of size
below_span Kib512 n = omega arith
below_span Mib1 n = omega arith

pub lane_moves : (size : ChipSize) (value forward over mask bytes : ℕ) → IsLane size value forward over mask → IsInside size bytes
    → IsLane size (bit_and (value + bytes) mask) forward over mask
lane_moves size value forward over mask bytes is inside =
    let at : Addr = record { value = value; size = size; even = is.even; below = is.below } in
    let moved : ℕ = value + bytes in
    let e : bit_and moved mask ≡ moved % bytes_of size = masked at mask bytes is.mask_is in
    let value_even = is.even in
    let bytes_even = inside.even in
    let even : moved % 2 ≡ 0 = omega (arith, value_even, bytes_even) in
    record {
      even = ap (λ (n : ℕ). n % 2) e ∙ even_rest size moved even;
      below = subst (λ (n : ℕ). n < bytes_of size) (sym e) (below_span size moved);
      mask_is = is.mask_is;
      forward_inside = is.forward_inside;
      over_inside = is.over_inside;
    }

-- a channel whose number alone is new
pub has_moved : (x x' : Lane) (mask bytes : ℕ) → mask + 1 ≡ span_of x.at → x'.at.value ≡ bit_and (x.at.value + bytes) mask → x'.at.size ≡ x.at.size
    → x'.forward ≡ x.forward → x'.over ≡ x.over → HasMoved x x' bytes
has_moved x x' mask bytes is value size forward over =
    record { forward = forward; over = over; value = value ∙ masked x.at mask bytes is; size = size }
