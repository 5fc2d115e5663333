use Rattle.entry_replay.proofs.Forward.{leads_begin, leads_silent, leads_turn, leads_read, leads_write}
use Rattle.entry_replay.proofs.laws.run_goes_ahead.Goals as goal

pub returns : goal.returns
returns g c = record { begins = leads_begin g.row.S.Denot; silent = leads_silent g.row.S.Denot; turn = leads_turn g.row.S.Denot; read = leads_read g.row.S.Denot; write = leads_write g.row.S.Denot }
