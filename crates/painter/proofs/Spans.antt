-- Spans of clocks, one behind the other.
use Rattle.std.proofs.Common.{◌≡◌, ℕ, zero, suc, ◌+◌, ◌-◌, ◌≤◌, Bool, true, false, List, [], ◌++◌, bit_or, refl, sym, ◌∙◌, ap, subst, arith}
use Rattle.std.proofs.Common.{append_assoc, add_assoc, add-zero}
use Rattle.std.specs.Bool.{if◌then◌else◌}
use Rattle.std.proofs.lemmas.List.{append-nil}
use Rattle.ocs_base.specs.declared.system.System.{System}
use Rattle.ocs_base.specs.Systems.{is_visible}
use Rattle.serial_model.specs.declared.picture.Denise.{Denise}
use Rattle.serial_model.specs.Picture.{step_of, after_step, pixels, pixel_bytes}
use Rattle.serial_model.specs.Spans.{after_shows, shown_bytes, shown_clx}
use Rattle.painter.specs.declared.field_place.FieldPlace.{FieldPlace}
use Rattle.painter.specs.declared.painter.Painter.{Painter}
use Rattle.painter.specs.Painter.{IsPainterOf}
use Rattle.painter.specs.Span.{visible_clocks, IsSpan}
use Rattle.painter.proofs.Ors.{or_assoc, or_none, none_or}

-- so many clocks, and so many more
pub after_more : (system : System) (v h n m : ℕ) (p : Denise) →
    after_shows system v h (n + m) p ≡ after_shows system v (h + n) m (after_shows system v h n p)
unfolding after_shows
after_more system v h n zero p = ap (λ (k : ℕ). after_shows system v h k p) (add-zero n)
after_more system v h n (suc m) p =
    let next : n + suc m ≡ suc (n + m) = omega arith in
    ap (λ (k : ℕ). after_shows system v h k p) next
    ∙ ap (λ (k : ℕ). after_step (step_of system v k (after_shows system v h (n + m) p)) (after_shows system v h (n + m) p)) (sym (add_assoc h n m))
    ∙ ap (λ (d : Denise). after_step (step_of system v (h + n + m) d) d) (after_more system v h n m p)

pub bytes_more : (system : System) (v h n m : ℕ) (p : Denise) →
    shown_bytes system v h (n + m) p ≡ shown_bytes system v h n p ++ shown_bytes system v (h + n) m (after_shows system v h n p)
unfolding shown_bytes
bytes_more system v h n zero p = ap (λ (k : ℕ). shown_bytes system v h k p) (add-zero n) ∙ sym (append-nil (shown_bytes system v h n p))
bytes_more system v h n (suc m) p =
    let next : n + suc m ≡ suc (n + m) = omega arith in
    ap (λ (k : ℕ). shown_bytes system v h k p) next
    ∙ ap (λ (k : ℕ). shown_bytes system v h (n + m) p ++ (step_of system v k (after_shows system v h (n + m) p)).bytes) (sym (add_assoc h n m))
    ∙ ap (λ (d : Denise). shown_bytes system v h (n + m) p ++ (step_of system v (h + n + m) d).bytes) (after_more system v h n m p)
    ∙ ap (λ (l : List ℕ). l ++ (step_of system v (h + n + m) (after_shows system v (h + n) m (after_shows system v h n p))).bytes)
    (bytes_more system v h n m p)
    ∙ append_assoc (shown_bytes system v h n p) (shown_bytes system v (h + n) m (after_shows system v h n p))
    (step_of system v (h + n + m) (after_shows system v (h + n) m (after_shows system v h n p))).bytes

pub clx_more : (system : System) (v h n m : ℕ) (p : Denise) →
    shown_clx system v h (n + m) p ≡ bit_or (shown_clx system v h n p) (shown_clx system v (h + n) m (after_shows system v h n p))
unfolding shown_clx
clx_more system v h n zero p = ap (λ (k : ℕ). shown_clx system v h k p) (add-zero n) ∙ sym (or_none (shown_clx system v h n p))
clx_more system v h n (suc m) p =
    let next : n + suc m ≡ suc (n + m) = omega arith in
    ap (λ (k : ℕ). shown_clx system v h k p) next
    ∙ ap (λ (k : ℕ). bit_or (shown_clx system v h (n + m) p) (step_of system v k (after_shows system v h (n + m) p)).clx) (sym (add_assoc h n m))
    ∙ ap (λ (d : Denise). bit_or (shown_clx system v h (n + m) p) (step_of system v (h + n + m) d).clx) (after_more system v h n m p)
    ∙ ap (λ (b : ℕ). bit_or b (step_of system v (h + n + m) (after_shows system v (h + n) m (after_shows system v h n p))).clx)
    (clx_more system v h n m p)
    ∙ or_assoc (shown_clx system v h n p) (shown_clx system v (h + n) m (after_shows system v h n p))
    (step_of system v (h + n + m) (after_shows system v (h + n) m (after_shows system v h n p))).clx

visible_more : (system : System) (v h n m : ℕ) →
    visible_clocks system v h (n + m) ≡ visible_clocks system v h n + visible_clocks system v (h + n) m
unfolding visible_clocks
visible_more system v h n zero = ap (visible_clocks system v h) (add-zero n) ∙ sym (add-zero (visible_clocks system v h n))
visible_more system v h n (suc m) =
    let next : n + suc m ≡ suc (n + m) = omega arith in
    ap (visible_clocks system v h) next
    ∙ ap (λ (k : ℕ). visible_clocks system v h (n + m) + (if is_visible system v k then 1 else 0)) (sym (add_assoc h n m))
    ∙ ap (λ (k : ℕ). k + (if is_visible system v (h + n + m) then 1 else 0)) (visible_more system v h n m)
    ∙ add_assoc (visible_clocks system v h n) (visible_clocks system v (h + n) m) (if is_visible system v (h + n + m) then 1 else 0)

pub visible_further : (from there : FieldPlace) (n m : ℕ) → there ≡ record from { h = from.h + n } →
    visible_clocks from.system from.v from.h (n + m)
    ≡ visible_clocks from.system from.v from.h n + visible_clocks there.system there.v there.h m
visible_further from there n m further =
    visible_more from.system from.v from.h n m
    ∙ ap (λ (place : FieldPlace). visible_clocks from.system from.v from.h n + visible_clocks place.system place.v place.h m) (sym further)

-- a span of no clocks
pub no_span : (system : System) (v h : ℕ) (p : Denise) (now : Painter) (bytes : List ℕ) (clx : ℕ) → IsPainterOf now p →
    IsSpan system v h 0 p now bytes bytes clx clx
unfolding after_shows shown_bytes shown_clx
no_span system v h p now bytes clx stands = record {
  painted = stands;
  bytes = sym (append-nil bytes);
  bits = sym (or_none clx);
}

-- a span and the span behind it
pub joined_at : (system : System) (v h n m : ℕ) (p : Denise) (now new : Painter) (before between after : List ℕ) (old mid clx : ℕ) →
    IsSpan system v h n p now before between old mid →
    IsSpan system v (h + n) m (after_shows system v h n p) new between after mid clx →
    IsSpan system v h (n + m) p new before after old clx
joined_at system v h n m p now new before between after old mid clx one two = record {
  painted = subst (λ (d : Denise). IsPainterOf new d) (sym (after_more system v h n m p)) two.painted;
  bytes =
      two.bytes
      ∙ ap (λ (l : List ℕ). l ++ shown_bytes system v (h + n) m (after_shows system v h n p)) one.bytes
      ∙ append_assoc before (shown_bytes system v h n p) (shown_bytes system v (h + n) m (after_shows system v h n p))
      ∙ ap (λ (l : List ℕ). before ++ l) (sym (bytes_more system v h n m p));
  bits =
      two.bits
      ∙ ap (λ (b : ℕ). bit_or b (shown_clx system v (h + n) m (after_shows system v h n p))) one.bits
      ∙ or_assoc old (shown_clx system v h n p) (shown_clx system v (h + n) m (after_shows system v h n p))
      ∙ ap (bit_or old) (sym (clx_more system v h n m p));
}

pub joined : (from there : FieldPlace) (n m : ℕ) (p : Denise) (now new : Painter) (before between after : List ℕ) (old mid clx : ℕ) →
    there ≡ record from { h = from.h + n } →
    IsSpan from.system from.v from.h n p now before between old mid →
    IsSpan there.system there.v there.h m (after_shows from.system from.v from.h n p) new between after mid clx →
    IsSpan from.system from.v from.h (n + m) p new before after old clx
joined from there n m p now new before between after old mid clx further one two =
    joined_at from.system from.v from.h n m p now new before between after old mid clx one
    (subst (λ (place : FieldPlace). IsSpan place.system place.v place.h m (after_shows from.system from.v from.h n p) new between after mid clx)
    further two)

pub none_visible : (system : System) (v h : ℕ) → visible_clocks system v h 0 ≡ 0
unfolding visible_clocks
none_visible system v h = refl

-- one clock
pub one_visible : (system : System) (v h : ℕ) (b : Bool) → is_visible system v h ≡ b → visible_clocks system v h 1 ≡ (if b then 1 else 0)
unfolding visible_clocks
one_visible system v h b is =
    ap (λ (k : ℕ). 0 + (if is_visible system v k then 1 else 0)) (add-zero h) ∙ ap (λ (t : Bool). 0 + (if t then 1 else 0)) is ∙ either b
  where
    either : (t : Bool) → 0 + (if t then 1 else 0) ≡ (if t then 1 else 0)
    either true = refl
    either false = refl

pub one_span : (system : System) (v h : ℕ) (p : Denise) (now : Painter) (before after : List ℕ) (old clx : ℕ) →
    IsPainterOf now (after_step (step_of system v h p) p) → after ≡ before ++ pixels system v h p →
    clx ≡ bit_or old (step_of system v h p).clx → IsSpan system v h 1 p now before after old clx
unfolding after_shows shown_bytes shown_clx step_of
one_span system v h p now before after old clx stands bytes bits =
    let zeroth : h + 0 ≡ h = add-zero h in
    record {
      painted = subst (λ (k : ℕ). IsPainterOf now (after_step (step_of system v k p) p)) (sym zeroth) stands;
      bytes = bytes ∙ ap (λ (k : ℕ). before ++ pixels system v k p) (sym zeroth);
      bits = bits ∙ ap (bit_or old) (sym (none_or (step_of system v h p).clx)) ∙ ap (λ (k : ℕ). bit_or old (bit_or 0 (step_of system v k p).clx)) (sym zeroth);
    }

pub hidden_bytes : (system : System) (v h : ℕ) (p : Denise) (before : List ℕ) → is_visible system v h ≡ false →
    before ≡ before ++ pixels system v h p
hidden_bytes system v h p before is =
    sym (append-nil before)
    ∙ ap (λ (b : Bool). before ++ (if b then pixel_bytes v h 0 p ++ (pixel_bytes v h 1 p ++ (pixel_bytes v h 2 p ++ pixel_bytes v h 3 p)) else []))
    (sym is)

-- the visible clocks of a span are among those of a longer one
pub visible_within : (system : System) (v h k n : ℕ) → k ≤ n → visible_clocks system v h k ≤ visible_clocks system v h n
visible_within system v h k n le =
    let rest : k + (n - k) ≡ n = omega arith in
    let all : visible_clocks system v h (k + (n - k)) ≡ visible_clocks system v h n = ap (visible_clocks system v h) rest in
    let more = visible_more system v h k (n - k) in
    omega arith

pub visible_both : (from there : FieldPlace) (k n : ℕ) → there ≡ record from { h = from.h + k } → k ≤ n →
    visible_clocks from.system from.v from.h k + visible_clocks there.system there.v there.h (n - k)
    ≡ visible_clocks from.system from.v from.h n
visible_both from there k n further le =
    let rest : k + (n - k) ≡ n = omega arith in
    sym (visible_further from there k (n - k) further) ∙ ap (visible_clocks from.system from.v from.h) rest

pub visible_few : (system : System) (v h n : ℕ) → visible_clocks system v h n ≤ n
unfolding visible_clocks
visible_few system v h zero = omega arith
visible_few system v h (suc n) =
    let before = visible_few system v h n in
    let one = at_most (is_visible system v (h + n)) in
    omega arith
  where
    at_most : (b : Bool) → (if b then 1 else 0) ≤ 1
    at_most true = omega arith
    at_most false = omega arith
