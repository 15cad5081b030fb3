-- The image of a scene, block by block.
use Rattle.std.proofs.Common.{◌≡◌, ℕ, ◌-◌, ◌*◌, ◌%◌, ◌&&◌, ◌==◌, nat_le, List, [], ◌∷◌, ◌++◌, length, replicate, refl, ap, ◌∙◌, arith, true, flat_map}
use Rattle.std.specs.List.{range_with_len}
use Rattle.ocs_base.specs.Image.{is_image, fits_chip}
use Rattle.ocs_base.specs.declared.chip_size.ChipSize.TheVariants.{Kib512}
use Rattle.scene_gen.specs.Blocks.{bytes_of, bytes_by, byte_at}
use Rattle.scene_gen.specs.Scene.{start_vectors, level_3_vector, main_program, level_3_handler, sprite_list, sprite_pointer}
use Rattle.scene_gen.specs.Scene.{plane_pointer, colour_change, copper_list, pattern_byte, scene_blocks, scene_image}
use Rattle.scene_gen.proofs.Growth.{length-bytes_of, length-bytes_by}
use Rattle.scene_gen.proofs.BlockLaws.{AreApart, placed, laid_after, laid_is}

pub length-sprite_list : (n : ℕ) → length (sprite_list n) ≡ 36
unfolding sprite_list
length-sprite_list n = refl

pub length-copper_list : (n : ℕ) → length (copper_list n) ≡ 114
unfolding copper_list
length-copper_list n = refl

AreApart-scene : (n : ℕ) → AreApart 0 (scene_blocks n) 49152
unfolding scene_blocks
AreApart-scene n =
    let start = length-bytes_of start_vectors in
    let vector = length-bytes_of level_3_vector in
    let main = length-bytes_of main_program in
    let handler = length-bytes_of level_3_handler in
    let sprite : length (bytes_of (sprite_list n)) ≡ 72 = length-bytes_of (sprite_list n) ∙ ap (λ k. 2 * k) (length-sprite_list n) in
    let copper : length (bytes_of (copper_list n)) ≡ 228 = length-bytes_of (copper_list n) ∙ ap (λ k. 2 * k) (length-copper_list n) in
    let planes = length-bytes_by (pattern_byte n) 0x4000 0x8000 in
    (omega arith, (omega arith, (omega arith, (omega arith, (omega arith, (omega arith, (omega arith, omega arith)))))))

laid-scene : (n : ℕ) → laid_after [] (scene_blocks n) ≡ scene_image n
unfolding scene_image
laid-scene n = laid_is 0 49152 [] (scene_blocks n) refl (AreApart-scene n)

pub copper_list-is : (n : ℕ) (none sprites planes colours all : List ℕ) → none ≡ [] → sprites ≡ none ++ flat_map sprite_pointer (range_with_len 0 8)
    → planes ≡ sprites ++ flat_map plane_pointer (range_with_len 1 4) → colours ≡ planes ++ flat_map (colour_change n) (range_with_len 0 16)
    → all ≡ colours ++ 0xffff ∷ 0xfffe ∷ [] → all ≡ copper_list n
unfolding copper_list
copper_list-is n none sprites planes colours all is_none more_sprites more_planes more_colours at_last =
    at_last ∙ ap (λ m. m ++ 0xffff ∷ 0xfffe ∷ [])
    (more_colours ∙ ap (λ m. m ++ flat_map (colour_change n) (range_with_len 0 16))
    (more_planes ∙ ap (λ m. m ++ flat_map plane_pointer (range_with_len 1 4))
    (more_sprites ∙ ap (λ m. m ++ flat_map sprite_pointer (range_with_len 0 8)) is_none)))

pub is_image-scene : (n : ℕ) → is_image (scene_image n) ≡ true
unfolding scene_image
is_image-scene n =
    ap (λ k. (k % 2 == 0) && nat_le 8 k && nat_le k 1048576) (length-bytes_by (byte_at (scene_blocks n)) 0 49152)

pub fits_chip-scene : (n : ℕ) → fits_chip Kib512 (scene_image n) ≡ true
unfolding scene_image
fits_chip-scene n = ap (λ k. nat_le k 524288) (length-bytes_by (byte_at (scene_blocks n)) 0 49152)

pub scene_image-is : (n : ℕ) (sprite_words copper_words none start vector main handler sprite copper zeros planes : List ℕ)
    → sprite_words ≡ sprite_list n → copper_words ≡ copper_list n → none ≡ []
    → start ≡ placed none 0x0000 (bytes_of start_vectors)
    → vector ≡ placed start 0x006c (bytes_of level_3_vector)
    → main ≡ placed vector 0x0100 (bytes_of main_program)
    → handler ≡ placed main 0x0140 (bytes_of level_3_handler)
    → sprite ≡ placed handler 0x0300 (bytes_of sprite_words)
    → copper ≡ placed sprite 0x0400 (bytes_of copper_words)
    → zeros ≡ copper ++ replicate (0x4000 - length copper) 0
    → planes ≡ zeros ++ bytes_by (pattern_byte n) 0x4000 0x8000
    → planes ≡ scene_image n
unfolding scene_blocks
scene_image-is n sprite_words copper_words none start vector main handler sprite copper zeros planes is_sprite is_copper is_none
    at_0 at_6c at_100 at_140 at_300 at_400 up_to_4000 at_4000 =
    let with_start = at_0 ∙ ap (λ m. placed m 0x0000 (bytes_of start_vectors)) is_none in
    let with_vector = at_6c ∙ ap (λ m. placed m 0x006c (bytes_of level_3_vector)) with_start in
    let with_main = at_100 ∙ ap (λ m. placed m 0x0100 (bytes_of main_program)) with_vector in
    let with_handler = at_140 ∙ ap (λ m. placed m 0x0140 (bytes_of level_3_handler)) with_main in
    let with_sprite = at_300 ∙ ap (λ words. placed handler 0x0300 (bytes_of words)) is_sprite
    ∙ ap (λ m. placed m 0x0300 (bytes_of (sprite_list n))) with_handler in
    let with_copper = at_400 ∙ ap (λ words. placed sprite 0x0400 (bytes_of words)) is_copper
    ∙ ap (λ m. placed m 0x0400 (bytes_of (copper_list n))) with_sprite in
    let pattern : List ℕ = bytes_by (pattern_byte n) 0x4000 0x8000 in
    at_4000 ∙ ap (λ m. m ++ pattern) up_to_4000 ∙ ap (λ m. placed m 0x4000 pattern) with_copper ∙ laid-scene n
