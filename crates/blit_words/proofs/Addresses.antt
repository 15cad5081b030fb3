-- An address from its number.
use Rattle.std.proofs.Common.{arith, ◌≡◌, ℕ, ◌%◌, ◌<◌, ℤ, pos, ◌+ℤ◌, unsigned_abs, ap, ◌∙◌}
use Rattle.std.specs.Int.{int_rem_euclid}
use Rattle.ocs_base.specs.Addr.{even_address}
use Rattle.ocs_base.specs.AddressOf.{addr_at}
use Rattle.ocs_base.specs.Sizes.{bytes_of}
use Rattle.ocs_base.specs.Span.{span_of}
use Rattle.ocs_base.specs.declared.addr.Addr.{Addr}
use Rattle.ocs_base.specs.declared.chip_size.ChipSize.{ChipSize}
use Rattle.ocs_base.specs.declared.chip_size.ChipSize.TheVariants.{Kib512, Mib1}
use Rattle.ocs_base.proofs.Addresses.{same_addr}
use Rattle.blit_words.specs.Blit.{address_on}

-- an even number below the span names itself
names_itself : (size : ChipSize) (n : ℕ) → n % 2 ≡ 0 → n < bytes_of size → n ≡ even_address (bytes_of size) n
names_itself Kib512 n even below = omega arith
names_itself Mib1 n even below = omega arith

pub address_is : (at to : Addr) (bytes : ℤ) → pos to.value ≡ int_rem_euclid (pos at.value +ℤ bytes) (pos (span_of at)) → to.size ≡ at.size
    → to ≡ address_on at bytes
unfolding address_on
address_is at to bytes same size =
    let z : ℕ = unsigned_abs (int_rem_euclid (pos at.value +ℤ bytes) (pos (span_of at))) in
    let value : to.value ≡ z = ap unsigned_abs same in
    let named : to.value ≡ even_address (bytes_of at.size) to.value =
    names_itself to.size to.value to.even to.below ∙ ap (λ (k : ChipSize). even_address (bytes_of k) to.value) size in
    same_addr to (addr_at at.size z) (named ∙ ap (even_address (bytes_of at.size)) value) size
