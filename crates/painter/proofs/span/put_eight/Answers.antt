use Rattle.std.proofs.Common.{slice_index_or}
use Rattle.painter.proofs.Wide.{three_of_eight, six_of_eight}
use Rattle.painter.proofs.span.put_eight.Goals as goal

pub returns-clause-three : goal.returns-clause-three
returns-clause-three c =
    let bytes = c.args.bytes.now in
    three_of_eight c.args.room.now bytes c.args.at (slice_index_or bytes 3 0) (slice_index_or bytes 4 0) (slice_index_or bytes 5 0)
    (slice_index_or bytes 6 0) (slice_index_or bytes 7 0) c.told-bytes c.requires

pub returns-clause-six : goal.returns-clause-six
returns-clause-six c =
    let bytes = c.args.bytes.now in
    six_of_eight c.args.room.now bytes c.args.at (slice_index_or bytes 6 0) (slice_index_or bytes 7 0) c.told-bytes c.requires
