-- The address that a number names, by the mask of the size of chip memory.
use Rattle.std.proofs.Common.{◌≡◌, ℕ, ◌+◌, ◌-◌, ◌*◌, ◌%◌, ◌<◌, ap, ◌∙◌, sym, subst, bit_and}
use Rattle.ocs_base.specs.AddressOf.{addr_at}
use Rattle.ocs_base.specs.Sizes.{bytes_of}
use Rattle.ocs_base.specs.declared.addr.Addr.{Addr}
use Rattle.ocs_base.specs.declared.chip_size.ChipSize.{ChipSize}
use Rattle.ocs_base.specs.declared.chip_size.ChipSize.TheVariants.{Kib512, Mib1}
use Rattle.ocs_base.proofs.Masks.{even_address_masked, wide_address_masked}
use Rattle.serial_model.specs.PlaneFetch.{move_pointer}
use Rattle.serial_model.specs.Registers.{Registers, kept_word, pointer_at, with_pointer}
use Rattle.bitplane_dma.specs.Rules.{rules_of}
use Rattle.bitplane_dma.specs.declared.rules.FetchRules.{FetchRules}

pub masked_as : (size : ChipSize) (mask n : ℕ) → mask ≡ bytes_of size - 2 → bit_and n mask ≡ (addr_at size n).value
masked_as Kib512 mask n is = ap (λ m. bit_and n m) is ∙ even_address_masked n
masked_as Mib1 mask n is = ap (λ m. bit_and n m) is ∙ wide_address_masked n

pub even_masked : (size : ChipSize) (mask n : ℕ) → mask ≡ bytes_of size - 2 → bit_and n mask % 2 ≡ 0
even_masked size mask n is = ap (λ value. value % 2) (masked_as size mask n is) ∙ (addr_at size n).even

pub below_masked : (size : ChipSize) (mask n : ℕ) → mask ≡ bytes_of size - 2 → bit_and n mask < bytes_of size
below_masked size mask n is = subst (λ value. value < bytes_of size) (sym (masked_as size mask n is)) (addr_at size n).below

-- ---- a pointer, by what decides the fetches of a line

size_as : (v : ℕ) (registers : Registers) (rules : FetchRules) → rules ≡ rules_of v registers → rules.size ≡ registers.size
size_as v registers rules same = ap (λ (r : FetchRules). r.size) same

pub pointer_as : (v high offset number : ℕ) (registers : Registers) (rules : FetchRules) (at : Addr) → rules ≡ rules_of v registers → high ≡ offset
    → number ≡ 65536 * kept_word registers high + kept_word registers (high + 2) → at ≡ addr_at rules.size number → at ≡ pointer_at registers offset
pointer_as v high offset number registers rules at same is words names =
    names
    ∙ ap (λ (size : ChipSize). addr_at size number) (size_as v registers rules same)
    ∙ ap (λ n. addr_at registers.size n) words
    ∙ ap (λ offset. pointer_at registers offset) is

pub pointer_moved : (v high offset bytes raw : ℕ) (registers moved : Registers) (rules : FetchRules) (at to : Addr) → rules ≡ rules_of v registers
    → high ≡ offset → at ≡ pointer_at registers offset → raw ≡ at.value → to ≡ addr_at rules.size (raw + 2 + bytes)
    → moved ≡ with_pointer registers high to.value → moved ≡ move_pointer offset bytes registers
pointer_moved v high offset bytes raw registers moved rules at to same is names value next moves =
    moves
    ∙ ap (λ offset. with_pointer registers offset to.value) is
    ∙ ap (λ (a : Addr). with_pointer registers offset a.value)
    (next
    ∙ ap (λ (size : ChipSize). addr_at size (raw + 2 + bytes)) (size_as v registers rules same)
    ∙ ap (λ n. addr_at registers.size (n + 2 + bytes)) (value ∙ ap (λ (a : Addr). a.value) names))
