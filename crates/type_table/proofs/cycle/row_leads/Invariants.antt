use Rattle.std.proofs.Common.{◌≡◌, drop}
use Rattle.type_table.specs.Cycles.{fields_lead}
use Rattle.type_table.proofs.cycle.row_leads.Given as goal

abbrev pub invariant-loop-field : goal.invariant-loop-field
invariant-loop-field l = fields_lead l.target l.marks l.fields ≡ fields_lead l.target l.marks (drop l.field-index l.fields)
