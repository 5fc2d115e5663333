-- What the reader's values stand for.
use Rattle.std.specs.Prelude.{List, [], ◌∷◌}
use Rattle.first_language.specs.declared.expression.Part.{Part as KeptPart}
use Rattle.first_language.specs.declared.expression.Waiting.{Waiting as KeptWaiting}
use Rattle.first_language.specs.declared.expression.Waiting.TheVariants as w
use Rattle.first_language.specs.declared.expression.Standing.{Standing as KeptStanding}
use Rattle.first_language.specs.declared.expression.Standing.TheVariants as s
use Rattle.first_language.specs.declared.line.Line.{Line as KeptLine}
use Rattle.first_language.specs.declared.line.Line.TheVariants as l
use Rattle.first_language.specs.declared.statements.Opening.{Opening as KeptOpening}
use Rattle.first_language.specs.declared.statements.Opening.TheVariants as o
use Rattle.first_language.specs.declared.statements.Progress.{Progress as KeptProgress}
use Rattle.first_language.specs.Grammar.{Line, Nothing, Declares, DeclaresWith, Does, OpensIf, ClosesIf, OpensWhile, ClosesWhile}
use Rattle.first_language.specs.Reading.{Part, Waiting, Opened, Waits, Standing, Wants, Has, Opening, InIf, InWhile, Progress}
use Rattle.first_language.specs.Tree.{tree_of, statement_of, block_of}

abbrev pub part_of : KeptPart → Part
part_of part = record { tree = tree_of part.tree; deep = part.deep }

abbrev pub waiting_of : KeptWaiting → Waiting
waiting_of w.Opened = Opened
waiting_of (w.Waits left op) = Waits (part_of left) op

-- what waits, upon what waits already
abbrev pub piled : List KeptWaiting → List Waiting → List Waiting
piled [] below = below
piled (first ∷ rest) below = piled rest (waiting_of first ∷ below)

-- the last of a list comes first
abbrev pub pile_of : List KeptWaiting → List Waiting
pile_of waiting = piled waiting []

abbrev pub standing_of : KeptStanding → Standing
standing_of (s.Wants waiting) = Wants (pile_of waiting.items)
standing_of (s.Has part waiting) = Has (part_of part) (pile_of waiting.items)

abbrev pub said_of : KeptLine → Line
said_of l.Nothing = Nothing
said_of (l.Declares name) = Declares name
said_of (l.DeclaresWith name value) = DeclaresWith name (tree_of value)
said_of (l.Does statement) = Does (statement_of statement)
said_of (l.OpensIf test) = OpensIf (tree_of test)
said_of l.ClosesIf = ClosesIf
said_of (l.OpensWhile test) = OpensWhile (tree_of test)
said_of l.ClosesWhile = ClosesWhile

abbrev pub opening_of : KeptOpening → Opening
opening_of (o.InIf test line before) = InIf (tree_of test) line (block_of before.items)
opening_of (o.InWhile test line before) = InWhile (tree_of test) line (block_of before.items)

-- blocks that are open, upon those that are open already
abbrev pub stacked : List KeptOpening → List Opening → List Opening
stacked [] below = below
stacked (first ∷ rest) below = stacked rest (opening_of first ∷ below)

-- the last of a list comes first
abbrev pub stack_of : List KeptOpening → List Opening
stack_of openings = stacked openings []

abbrev pub progress_of : KeptProgress → Progress
progress_of p = record { open_blocks = stack_of p.open_blocks.items; here = block_of p.here.items; names = p.names.items; above = p.above }
