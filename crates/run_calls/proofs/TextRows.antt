use Rattle.std.proofs.Common.{◌≡◌, ℕ, nat_le, true, ◌&&◌, List, slice_index, true≢false, refl, sym}
use Rattle.fb_names.specs.declared.calls.RuntimeCall.{RuntimeCall}
use Rattle.fb_names.specs.declared.calls.RuntimeCall.TheVariants as calls
use Rattle.fb_names.specs.Calls.{call_number}
use Rattle.text_calls.specs.Rows.{outcome_of, from_10, from_16, from_22, from_28}
use Rattle.run_calls.specs.Shared.{Program, Shared}
use Rattle.run_calls.specs.TextRows.{by_outcome}
use Rattle.run_calls.specs.Table.{row_of}

-- The rows of the string calls are those of their numbers.

pub text_rows : (p : Program) (args : List ℕ) (t now line : ℕ) (x : Shared) (call : RuntimeCall) → (nat_le 10 (call_number call) && nat_le (call_number call) 33) ≡ true → row_of p (slice_index args 0) (slice_index args 1) (slice_index args 2) (slice_index args 3) t now line x call ≡ by_outcome p.rule line x (outcome_of x.seen.strings p.literals (call_number call) args)
unfolding outcome_of from_10 from_16 from_22 from_28
text_rows p args t now line x calls.PlaceOpen e = absurd (true≢false (sym e))
text_rows p args t now line x calls.PlaceFree e = absurd (true≢false (sym e))
text_rows p args t now line x calls.ObjMade e = absurd (true≢false (sym e))
text_rows p args t now line x calls.ObjDead e = absurd (true≢false (sym e))
text_rows p args t now line x calls.NewPlace e = absurd (true≢false (sym e))
text_rows p args t now line x calls.DeleteBegin e = absurd (true≢false (sym e))
text_rows p args t now line x calls.DeleteEnd e = absurd (true≢false (sym e))
text_rows p args t now line x calls.StrInit e = refl
text_rows p args t now line x calls.StrDrop e = refl
text_rows p args t now line x calls.StrLit e = refl
text_rows p args t now line x calls.StrCopy e = refl
text_rows p args t now line x calls.StrCat e = refl
text_rows p args t now line x calls.StrSet e = refl
text_rows p args t now line x calls.StrCmp e = refl
text_rows p args t now line x calls.StrLen e = refl
text_rows p args t now line x calls.StrLeft e = refl
text_rows p args t now line x calls.StrRight e = refl
text_rows p args t now line x calls.StrMid e = refl
text_rows p args t now line x calls.StrChr e = refl
text_rows p args t now line x calls.StrAsc e = refl
text_rows p args t now line x calls.StrSigned e = refl
text_rows p args t now line x calls.StrUnsigned e = refl
text_rows p args t now line x calls.StrVal e = refl
text_rows p args t now line x calls.StrFind e = refl
text_rows p args t now line x calls.StrUpper e = refl
text_rows p args t now line x calls.StrLower e = refl
text_rows p args t now line x calls.StrSpace e = refl
text_rows p args t now line x calls.StrLTrim e = refl
text_rows p args t now line x calls.StrRTrim e = refl
text_rows p args t now line x calls.StrGet e = refl
text_rows p args t now line x calls.StrPut e = refl
text_rows p args t now line x calls.PrintSigned e = absurd (true≢false (sym e))
text_rows p args t now line x calls.PrintUnsigned e = absurd (true≢false (sym e))
text_rows p args t now line x calls.PrintBool e = absurd (true≢false (sym e))
text_rows p args t now line x calls.PrintStr e = absurd (true≢false (sym e))
text_rows p args t now line x calls.PrintTab e = absurd (true≢false (sym e))
text_rows p args t now line x calls.PrintLine e = absurd (true≢false (sym e))
text_rows p args t now line x calls.LineInput e = absurd (true≢false (sym e))
text_rows p args t now line x calls.ThreadCreate e = absurd (true≢false (sym e))
text_rows p args t now line x calls.ThreadWait e = absurd (true≢false (sym e))
text_rows p args t now line x calls.ThreadDetach e = absurd (true≢false (sym e))
text_rows p args t now line x calls.ThreadEnd e = absurd (true≢false (sym e))
text_rows p args t now line x calls.MutexCreate e = absurd (true≢false (sym e))
text_rows p args t now line x calls.MutexLock e = absurd (true≢false (sym e))
text_rows p args t now line x calls.MutexUnlock e = absurd (true≢false (sym e))
text_rows p args t now line x calls.MutexDestroy e = absurd (true≢false (sym e))
text_rows p args t now line x calls.CondCreate e = absurd (true≢false (sym e))
text_rows p args t now line x calls.CondWait e = absurd (true≢false (sym e))
text_rows p args t now line x calls.CondSignal e = absurd (true≢false (sym e))
text_rows p args t now line x calls.CondBroadcast e = absurd (true≢false (sym e))
text_rows p args t now line x calls.CondDestroy e = absurd (true≢false (sym e))
text_rows p args t now line x calls.Sleep e = absurd (true≢false (sym e))
text_rows p args t now line x calls.MainEnd e = absurd (true≢false (sym e))
text_rows p args t now line x calls.End e = absurd (true≢false (sym e))
text_rows p args t now line x calls.Trap e = absurd (true≢false (sym e))
