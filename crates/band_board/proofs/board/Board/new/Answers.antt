use Rattle.band_board.proofs.Starts.{starts}
use Rattle.band_board.proofs.board.Board.new.Goals as goal

pub vacant-requires : goal.vacant-requires
vacant-requires g c =
    starts g.W.Work.right_job g.W.Work.right_drawn _ _ c.first_words-words.ensures.size c.first_words-words.ensures.places c.first_words-words.ensures.open
