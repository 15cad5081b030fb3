use Rattle.foreground.proofs.fore.Fore.access_by.Goals as goal

pub is_clx_ask-requires : goal.is_clx_ask-requires
is_clx_ask-requires g c = tt

pub access_clxdat-requires-clause-can : goal.access_clxdat-requires-clause-can
access_clxdat-requires-clause-can g c = c.requires.can

pub returns-then-is_clx_ask : goal.returns-then-is_clx_ask
returns-then-is_clx_ask g c = c.access_clxdat.ensures

pub make_access-requires-clause-can : goal.make_access-requires-clause-can
make_access-requires-clause-can g c = (_, c.requires.can)

pub make_access-requires-clause-room : goal.make_access-requires-clause-room
make_access-requires-clause-room g c = c.requires.room
