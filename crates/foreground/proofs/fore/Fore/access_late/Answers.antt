use Rattle.std.proofs.Common.{refl}
use Rattle.foreground.proofs.fore.Fore.access_late.Goals as goal

pub late_owner-requires : goal.late_owner-requires
late_owner-requires g c = tt

pub access_for_copper-requires-clause-room : goal.access_for_copper-requires-clause-room
access_for_copper-requires-clause-room g c = c.requires.room

pub access_for_blitter-requires-clause-room : goal.access_for_blitter-requires-clause-room
access_for_blitter-requires-clause-room g c = c.requires.room

pub access_for_processor-requires-clause-room : goal.access_for_processor-requires-clause-room
access_for_processor-requires-clause-room g c = c.requires.room

pub make_fetch-requires-clause-fetch : goal.make_fetch-requires-clause-fetch
make_fetch-requires-clause-fetch g c = refl

pub make_fetch-requires-clause-room : goal.make_fetch-requires-clause-room
make_fetch-requires-clause-room g c = c.requires.room
