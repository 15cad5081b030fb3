-- A moving pointer and the address that it stands for.
use Rattle.std.specs.Prelude.{◌≡◌, ℕ, ◌+◌, ◌%◌, Bool, if◌then◌else◌, ℤ, pos, ◌+ℤ◌}
use Rattle.std.specs.Int.{int_rem_euclid}
use Rattle.ocs_base.specs.Span.{span_of}
use Rattle.ocs_base.specs.declared.addr.Addr.{Addr}
use Rattle.blit_words.specs.declared.blit.BlitRegs.{BlitRegs}
use Rattle.blit_words.specs.declared.blit.WordAsk.{WordAsk}
use Rattle.blit_words.specs.declared.blit.WordAsk.TheVariants.{A, B, C, D}
use Rattle.blit_words.specs.Blit.{even_part, width_of}
use Rattle.blit_words.specs.AreaBlit.{is_used, is_descending, modulo_of, pointer_of, opposite_if, way_to}
use Rattle.blitter_area.specs.Spans.{within_span}
use Rattle.blitter_area.specs.declared.channel.Channel.{Channel}
use Rattle.blitter_area.specs.declared.channel.Pointers.{Pointers}
use Rattle.blitter_area.specs.declared.channel.OfEach.{OfEach}

-- a channel: its address, and its ways by a word and by a row
pub record Lane : Type 0 where
  pub at : Addr
  pub forward : ℕ
  pub over : ℕ

abbrev pub lane_of : Channel → Lane
lane_of x = record { at = x.at; forward = x.forward; over = x.over }

-- the channels of the pointers
abbrev pub lane_a : Pointers → Lane
lane_a p = record {
  at = record { value = p.values.a; size = p.sizes.a; even = p.a_is.even; below = p.a_is.below };
  forward = p.forward.a;
  over = p.over.a;
}

abbrev pub lane_b : Pointers → Lane
lane_b p = record {
  at = record { value = p.values.b; size = p.sizes.b; even = p.b_is.even; below = p.b_is.below };
  forward = p.forward.b;
  over = p.over.b;
}

abbrev pub lane_c : Pointers → Lane
lane_c p = record {
  at = record { value = p.values.c; size = p.sizes.c; even = p.c_is.even; below = p.c_is.below };
  forward = p.forward.c;
  over = p.over.c;
}

abbrev pub lane_d : Pointers → Lane
lane_d p = record {
  at = record { value = p.values.d; size = p.sizes.d; even = p.d_is.even; below = p.d_is.below };
  forward = p.forward.d;
  over = p.over.d;
}

-- a channel at an address that moves by these ways, modulo the span
pub record MovesBy (x : Lane) (at : Addr) (way row_way : ℤ) : Type 0 where
  pub pointer : x.at ≡ at
  pub forward : pos x.forward ≡ within_span at way
  pub over : pos x.over ≡ within_span at row_way

-- the way of a channel by a step; an unused channel stays
abbrev pub way_if : Bool → Bool → ℤ → ℤ
way_if used descending way = if used then opposite_if descending way else pos 0

-- a new channel
abbrev pub IsMade : Lane → Addr → Bool → ℤ → Bool → Type 0
IsMade x at used modulo descending =
    MovesBy x at (way_if used descending (pos 2)) (way_if used descending (even_part modulo))

-- a channel of which the address alone is new: it moved by so many bytes, modulo its span
pub record HasMoved (x x' : Lane) (bytes : ℕ) : Type 0 where
  pub forward : x'.forward ≡ x.forward
  pub over : x'.over ≡ x.over
  pub value : x'.at.value ≡ (x.at.value + bytes) % span_of x.at
  pub size : x'.at.size ≡ x.at.size

-- the number of the address of a channel at word c of row r, modulo the span of its pointer
unfoldable pub address_number : BlitRegs → WordAsk → ℕ → ℕ → ℤ
address_number s k r c =
    if is_used s k
    then int_rem_euclid (pos (pointer_of s k).value +ℤ way_to s k r c) (pos (span_of (pointer_of s k)))
    else pos (pointer_of s k).value

-- a channel that stands at word c of row r, in the span of its pointer
pub record IsAt (x : Lane) (s : BlitRegs) (k : WordAsk) (r c : ℕ) : Type 0 where
  pub address : pos x.at.value ≡ address_number s k r c
  pub size : x.at.size ≡ (pointer_of s k).size
  pub forward : pos x.forward ≡ within_span (pointer_of s k) (way_if (is_used s k) (is_descending s) (pos 2))
  pub over : pos x.over ≡ within_span (pointer_of s k) (way_if (is_used s k) (is_descending s) (even_part (modulo_of s k)))

pub record AreAt (x : Pointers) (s : BlitRegs) (r c : ℕ) : Type 0 where
  pub of_a : IsAt (lane_a x) s A r c
  pub of_b : IsAt (lane_b x) s B r c
  pub of_c : IsAt (lane_c x) s C r c
  pub of_d : IsAt (lane_d x) s D r c

-- all four channels moved, each by its number of bytes
pub record HaveMoved (x x' : Pointers) (bytes : OfEach) : Type 0 where
  pub of_a : HasMoved (lane_a x) (lane_a x') bytes.a
  pub of_b : HasMoved (lane_b x) (lane_b x') bytes.b
  pub of_c : HasMoved (lane_c x) (lane_c x') bytes.c
  pub of_d : HasMoved (lane_d x) (lane_d x') bytes.d

-- a step of all channels by a word, from wherever they stand
abbrev pub AllStepWord : Pointers → Pointers → Type 0
AllStepWord old new = (s : BlitRegs) (r c : ℕ) → AreAt old s r c → AreAt new s r (c + 1)

-- a step to the next row, from behind the last word of one
abbrev pub AllStepRow : Pointers → Pointers → Type 0
AllStepRow old new = (s : BlitRegs) (r c : ℕ) → c ≡ width_of s → AreAt old s r c → AreAt new s (r + 1) 0
