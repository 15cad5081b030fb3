use Rattle.foreground.proofs.fore.Fore.access_for_processor.Goals as goal

pub processor_wish-requires : goal.processor_wish-requires
processor_wish-requires g c = tt

pub access_by-requires-clause-room : goal.access_by-requires-clause-room
access_by-requires-clause-room g c = c.requires.room

pub access_by-requires-in-None-clause-room : goal.access_by-requires-in-None-clause-room
access_by-requires-in-None-clause-room g c = c.requires.room
