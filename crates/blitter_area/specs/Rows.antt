-- The row of a word's asks, with rests behind the last.
use Rattle.std.specs.Prelude.{◌-◌, List, ◌++◌, length, replicate}
use Rattle.blit_words.specs.declared.blit.WordAsk.{WordAsk}
use Rattle.blit_words.specs.declared.blit.WordAsk.TheVariants.{Rest}

abbrev pub pad_row : List WordAsk → List WordAsk
pad_row asks = asks ++ replicate (4 - length asks) Rest
