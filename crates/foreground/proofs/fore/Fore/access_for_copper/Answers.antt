use Rattle.std.proofs.Common.{refl}
use Rattle.foreground.proofs.fore.Fore.access_for_copper.Goals as goal

pub copper_wish-requires : goal.copper_wish-requires
copper_wish-requires g c = tt

pub make_fetch-requires-clause-fetch : goal.make_fetch-requires-clause-fetch
make_fetch-requires-clause-fetch g c = refl

pub make_fetch-requires-clause-room : goal.make_fetch-requires-clause-room
make_fetch-requires-clause-room g c = c.requires.room

pub make_fetch-requires-in-None-clause-fetch : goal.make_fetch-requires-in-None-clause-fetch
make_fetch-requires-in-None-clause-fetch g c = refl

pub make_fetch-requires-in-None-clause-room : goal.make_fetch-requires-in-None-clause-room
make_fetch-requires-in-None-clause-room g c = c.requires.room
