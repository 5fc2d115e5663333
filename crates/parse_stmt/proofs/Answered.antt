-- What the public call says of its answer.
use Rattle.std.proofs.Common.{◌≡◌, ◌≢◌, Result, Ok, Err, sym, ◌∙◌}
use Rattle.std.specs.Prelude.{IfOk, IfErr}
use Rattle.fb_lexer.specs.TokenList.{TokenList}
use Rattle.fb_ast.specs.declared.tree.Tree.{Tree}
use Rattle.parse_expr.specs.declared.error.ParseErr.{ParseErr}
use Rattle.parse_expr.specs.declared.error.ParseErr.TheVariants as errors
use Rattle.parse_expr.specs.Expr.{Answers}
use Rattle.parse_stmt.specs.Module.{tree_of}
use Rattle.parse_stmt.specs.Texts.{IsText}
use Rattle.parse_stmt.specs.Faults.{Fails}
use Rattle.parse_stmt.proofs.Whole.{text_read, text_found}
use Rattle.parse_stmt.proofs.LateFaults.{found_first}

not_both : (answer : Result Tree ParseErr) (tree : Tree) (e : ParseErr) → answer ≡ Ok tree → answer ≡ Err e → ⊥
not_both answer tree e one other = let bad : ◌≡◌ {A = Result Tree ParseErr} (Ok tree) (Err e) = sym one ∙ other in cc

fails : (tokens : TokenList) (e : ParseErr) → (e ≢ errors.NoMemory → tree_of tokens ≡ Err e) → Fails tokens e
fails tokens errors.NoMemory answer = tt
fails tokens (errors.Fault fault) answer =
    let told = answer (λ same. cc) in
    (found_first tokens fault told, λ tree text. not_both (tree_of tokens) tree (errors.Fault fault) (text_found tokens tree text) told)

pub text_if : (tokens : TokenList) (r : Result Tree ParseErr) → Answers (tree_of tokens) r → IfOk r (λ tree. IsText tokens.items tokens.last_line tree)
text_if tokens (Ok tree) answer = text_read tokens tree answer
text_if tokens (Err e) answer = tt

pub fails_if : (tokens : TokenList) (r : Result Tree ParseErr) → Answers (tree_of tokens) r → IfErr r (λ e. Fails tokens e)
fails_if tokens (Ok tree) answer = tt
fails_if tokens (Err e) answer = fails tokens e answer
