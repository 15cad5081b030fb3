-- It goes on from where it stands.
use Rattle.foreground_tests.proofs.clocks_passed_over.run_clocks.Goals as goal

pub run_to-requires : goal.run_to-requires
run_to-requires g c = record { fits = λ going. c.requires.fits }
