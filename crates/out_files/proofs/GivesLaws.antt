-- What calls add to the texts of the output files, one after another.
use Rattle.std.proofs.Common.{◌≡◌, ℕ, List, [], ◌∷◌, ◌++◌, Option, refl, sym, ap, ◌∙◌, subst, append_assoc, append-nil}
use Rattle.ocs_base.specs.declared.system.System.{System}
use Rattle.ocs_io.specs.Place.{Files}
use Rattle.serial_model.specs.declared.trace.TraceLine.{TraceLine}
use Rattle.out_files.specs.OutFiles.{OutFilesValue, with_pixels, with_line}
use Rattle.out_files.specs.Together.{AreTogether, AddsPixels, AddsLine}
use Rattle.out_files.specs.Gives.{Gives}

-- the same files and texts by names of the lists that are equal
moved : (system : System) (out : OutFilesValue) (base files : Option Files) (bytes others : List ℕ) (lines more : List TraceLine) → bytes ≡ others
    → lines ≡ more → AreTogether system out base files bytes lines → AreTogether system out base files others more
moved system out base files bytes others lines more same alike so_far =
    subst (λ (l : List TraceLine). AreTogether system out base files others l) alike
    (subst (λ (l : List ℕ). AreTogether system out base files l lines) same so_far)

pub gives_nothing : (out : OutFilesValue) → Gives out out [] []
gives_nothing out = record {
  names = refl;
  text = λ system base files before traced so_far.
      moved system out base files before (before ++ []) traced (traced ++ []) (sym (append-nil before)) (sym (append-nil traced)) so_far;
}

pub gives_then : (old between new : OutFilesValue) (pixels more : List ℕ) (lines others : List TraceLine) → Gives old between pixels lines →
    Gives between new more others → Gives old new (pixels ++ more) (lines ++ others)
gives_then old between new pixels more lines others first second = record {
  names = second.names ∙ first.names;
  text = λ system base files before traced so_far.
      moved system new base files ((before ++ pixels) ++ more) (before ++ (pixels ++ more)) ((traced ++ lines) ++ others) (traced ++ (lines ++ others))
      (append_assoc before pixels more) (append_assoc traced lines others)
      (second.text system base files (before ++ pixels) (traced ++ lines) (first.text system base files before traced so_far));
}

pub gives_pixels : (old new : OutFilesValue) (piece : List ℕ) → new ≡ with_pixels old piece → AddsPixels old new piece → Gives old new piece []
unfolding AddsPixels
gives_pixels old new piece with_piece adds = record {
  names = ap (λ (o : OutFilesValue). o.names) with_piece;
  text = λ system base files before traced so_far.
      moved system new base files (before ++ piece) (before ++ piece) traced (traced ++ []) refl (sym (append-nil traced))
      (adds system base files before traced so_far);
}

pub gives_line : (old new : OutFilesValue) (line : TraceLine) → new ≡ with_line old line → AddsLine old new line → Gives old new [] (line ∷ [])
unfolding AddsLine
gives_line old new line one_more adds = record {
  names = ap (λ (o : OutFilesValue). o.names) one_more;
  text = λ system base files before traced so_far.
      moved system new base files before (before ++ []) (traced ++ line ∷ []) (traced ++ line ∷ []) (sym (append-nil before)) refl
      (adds system base files before traced so_far);
}
