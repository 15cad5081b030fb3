use Rattle.disk_dma.proofs.FitLaws.{new_fits}
use Rattle.disk_dma.proofs.disk.Disk.new.Goals as goal

pub returns-in_err-from_slice-clause-fits : goal.returns-in_err-from_slice-clause-fits
returns-in_err-from_slice-clause-fits c =
    new_fits c.args.track.now c.of_bytes-size.result c.args.chip c.of_bytes-size.ensures.named c.of_bytes-size.ensures.bytes

pub returns-clause-fits : goal.returns-clause-fits
returns-clause-fits c =
    new_fits c.args.track.now c.of_bytes-size.result c.args.chip c.of_bytes-size.ensures.named c.of_bytes-size.ensures.bytes
