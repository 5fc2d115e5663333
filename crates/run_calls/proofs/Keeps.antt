use Rattle.std.proofs.Common.{◌≡◌, ℕ, ◌+◌, ◌<◌, nat_lt, ◌==◌, Bool, true, false, ◌||◌, if◌then◌else◌, List, [], ◌∷◌, length, slice_index, Option, Some, None, true≢false, refl, sym, ap, ◌∙◌, subst}
use Rattle.std.proofs.lemmas.Bool.{ltb-true}
use Rattle.std.proofs.lemmas.List.{length_push}
use Rattle.thread_system.specs.Memory.{Memory, with_byte}
use Rattle.fb_base.specs.declared.shape.Shape.{Shape}
use Rattle.fb_base.specs.declared.fault.TrapKind.{TrapKind}
use Rattle.fb_base.specs.declared.fault.TrapKind.TheVariants.{BadCode, BadPointer, BadFree}
use Rattle.fb_names.specs.declared.calls.RuntimeCall.{RuntimeCall}
use Rattle.fb_names.specs.declared.calls.RuntimeCall.TheVariants as calls
use Rattle.fb_names.specs.Calls.{call_of}
use Rattle.fb_names.specs.Kinds.{trap_of}
use Rattle.places.specs.declared.kinds.Form.{Form}
use Rattle.places.specs.declared.kinds.Form.TheVariants.{Scope}
use Rattle.places.specs.Place.{Head, size_of}
use Rattle.places.specs.Memory.{offset_of, number_of, each_byte, is_among}
use Rattle.places.specs.Calls.{most_live, new_head, new_byte, is_scope, may_die}
use Rattle.text_functions.specs.Functions.{is_below_one}
use Rattle.text_calls.specs.declared.outcome.Outcome.{Outcome}
use Rattle.text_calls.specs.declared.outcome.Outcome.TheVariants.{Trapped, Gives, Makes, Sets, Puts, Drops}
use Rattle.text_calls.specs.Rows as texts
use Rattle.text_calls.specs.Strings.{text_of}
use Rattle.rt_threads.specs.declared.kinds.Handle.{Handle}
use Rattle.rt_threads.specs.declared.kinds.Handle.TheVariants.{Mutex, Condition}
use Rattle.rt_threads.specs.Table.{Table, IsReady}
use Rattle.rt_threads.specs.Rows as threads
use Rattle.entry_replay.specs.Accesses.{Store, among, with_stores, untouched}
use Rattle.entry_replay.specs.World.{Start, Done, Applied, Refuses, Does}
use Rattle.entry_replay.specs.Laws.{Lawful}
use Rattle.entry_replay.proofs.Pairs.{nothing_there}
use Rattle.entry_replay.proofs.Touched.{same_some}
use Rattle.rt_threads.specs.Laws.{Call, Creates, Waits, Detaches, Ends, MakesMutex, Locks, Unlocks, DestroysMutex, MakesCondition, WaitsAt, Signals, Broadcasts, DestroysCondition, after}
use Rattle.rt_threads.specs.Standing.{Stands}
use Rattle.rt_threads.proofs.CallStands.{call_stands}
use Rattle.run_calls.proofs.Numbers.{CreatesNone, numbers_kept}
use Rattle.run_calls.specs.Seen.{in_place, starting, may_close}
use Rattle.run_calls.specs.Shared.{Program, Shared, traps_with}
use Rattle.run_calls.specs.PlaceRows.{made_place, place_open, form_of, new_of, new_place, freed_by, begun_by, delete_of, delete_begin, obj_made, obj_dead}
use Rattle.run_calls.specs.TextRows.{by_outcome, prints_text, behind_line, first_line, line_read, leaving_input}
use Rattle.run_calls.specs.ThreadRows.{by_table, new_handle, thread_create, created_thread, trap_by}
use Rattle.run_calls.specs.Table.{row_of, row_by, applies, runtime}

-- The table keeps to what is asked of a runtime.

-- how many threads there are where one is created beside so many
abbrev pub more_by : Option Start → ℕ → ℕ
more_by None n = n
more_by (Some s) n = n + 1

-- A call of thread t that is done touches each byte that it changes, and the thread that it creates has a procedure that
-- there is. The table of threads stands after it as before, and has one thread more where one is created.
pub record Keeps (procs t : ℕ) (x : Shared) (d : Done Shared) : Type 0 where
  pub touch : (a : ℕ) → d.touched a ≡ false → x.seen.bytes a ≡ d.after.seen.bytes a
  pub creates : (s : Start) → d.made ≡ Some s → s.proc < procs
  pub stands : Stands x.table → IsReady x.table t → Stands d.after.table
  pub number : length d.after.table.threads ≡ more_by d.made (length x.table.threads)

abbrev pub KeepsTo : (procs t : ℕ) → Shared → Applied Shared → Type 0
KeepsTo procs t x (Refuses kind) = Unit {0}
KeepsTo procs t x (Does d) = Keeps procs t x d

-- what a test changes isn't changed where it fails
changed : (test : Bool) (old new : Option ℕ) → test ≡ false → old ≡ (if test then new else old)
changed true old new e = absurd (true≢false e)
changed false old new e = refl

either : (procs t : ℕ) (x : Shared) (b : Bool) (y z : Applied Shared) → KeepsTo procs t x y → KeepsTo procs t x z → KeepsTo procs t x (if b then y else z)
either procs t x true y z k l = k
either procs t x false y z k l = l

-- a call that leaves the table of threads as it is
plain : (procs t : ℕ) (x : Shared) (d : Done Shared) → ((a : ℕ) → d.touched a ≡ false → x.seen.bytes a ≡ d.after.seen.bytes a) → d.made ≡ None → d.after.table ≡ x.table → Keeps procs t x d
plain procs t x d touch none same = record {
  touch = touch;
  creates = λ s made. absurd (nothing_there s (sym none ∙ made));
  stands = λ stands ready. subst Stands (sym same) stands;
  number = ap (λ (table : Table). length table.threads) same ∙ sym (ap (λ o. more_by o (length x.table.threads)) none);
}

-- ---- places

place_made : (procs t : ℕ) (h : Head) (x : Shared) → KeepsTo procs t x (made_place h x)
place_made procs t h x =
    either procs t x (nat_lt most_live (x.seen.used + size_of h)) _ _ tt
    (plain procs t x _ (λ a e. changed (in_place x.seen.next (size_of h) a) (x.seen.bytes a) (new_byte h (offset_of a)) e) refl refl)

opened : (procs t : ℕ) (x : Shared) (shape : Option Shape) → KeepsTo procs t x (place_open shape x)
opened procs t x None = tt
opened procs t x (Some shape) = place_made procs t (new_head shape 1 Scope) x

made_of : (procs t count : ℕ) (x : Shared) (shape : Shape) (form : Option Form) → KeepsTo procs t x (new_of shape count form x)
made_of procs t count x shape None = tt
made_of procs t count x shape (Some form) = place_made procs t (new_head shape count form) x

made_new : (procs t count : ℕ) (x : Shared) (form : Option Form) (shape : Option Shape) → KeepsTo procs t x (new_place shape count form x)
made_new procs t count x form None = tt
made_new procs t count x form (Some shape) = either procs t x (is_below_one count) _ _ tt (made_of procs t count x shape form)

freed : (procs t : ℕ) (test : Head → Bool) (kind : TrapKind) (a : ℕ) (x : Shared) (head : Option Head) → KeepsTo procs t x (freed_by test kind a x head)
freed procs t test kind a x None = tt
freed procs t test kind a x (Some h) =
    either procs t x (test h) _ _ (plain procs t x _ (λ q e. changed (in_place (number_of a) (size_of h) q) (x.seen.bytes q) None e) refl refl) tt

begun : (procs t : ℕ) (shape : Shape) (form : Form) (a : ℕ) (x : Shared) (head : Option Head) → KeepsTo procs t x (begun_by shape form a x head)
begun procs t shape form a x None = tt
begun procs t shape form a x (Some h) = either procs t x (may_die shape form h) _ _ (plain procs t x _ (λ q e. refl) refl refl) tt

deleted_of : (procs t p : ℕ) (x : Shared) (shape : Shape) (form : Option Form) → KeepsTo procs t x (delete_of shape p form x)
deleted_of procs t p x shape None = tt
deleted_of procs t p x shape (Some form) = begun procs t shape form p x (starting x.seen p)

deleted : (procs t p : ℕ) (x : Shared) (form : Option Form) (shape : Option Shape) → KeepsTo procs t x (delete_begin shape p form x)
deleted procs t p x form None = tt
deleted procs t p x form (Some shape) = deleted_of procs t p x shape form

noted : (procs t p n line : ℕ) (x : Shared) → KeepsTo procs t x (obj_made p n line x)
noted procs t p n line x = either procs t x (each_byte x.seen.live p n) _ _ (plain procs t x _ (λ q e. refl) refl refl) tt

closed : (procs t p n line : ℕ) (x : Shared) → KeepsTo procs t x (obj_dead p n line x)
closed procs t p n line x =
    either procs t x (each_byte (may_close x.seen) p n) _ _ (plain procs t x _ (λ q e. changed (is_among p n q) (x.seen.bytes q) None e) refl refl) tt

-- ---- strings, what is printed and what is read

text : (procs t rule line : ℕ) (x : Shared) (outcome : Outcome) → KeepsTo procs t x (by_outcome rule line x outcome)
text procs t rule line x (Trapped kind) = tt
text procs t rule line x (Gives number) = plain procs t x _ (λ q e. refl) refl refl
text procs t rule line x (Makes cell bytes) = plain procs t x _ (λ q e. refl) refl refl
text procs t rule line x (Sets cell bytes) = plain procs t x _ (λ q e. refl) refl refl
text procs t rule line x (Puts cell index byte) = plain procs t x _ (λ q e. refl) refl refl
text procs t rule line x (Drops cell) = plain procs t x _ (λ q e. refl) refl refl

printed_text : (procs t : ℕ) (x : Shared) (bytes : Option (List ℕ)) → KeepsTo procs t x (prints_text bytes x)
printed_text procs t x None = tt
printed_text procs t x (Some bytes) = plain procs t x _ (λ q e. refl) refl refl

left : (procs t : ℕ) (x : Shared) (rest : List ℕ) (y : Applied Shared) → KeepsTo procs t x y → KeepsTo procs t x (leaving_input rest y)
left procs t x rest (Refuses kind) k = tt
left procs t x rest (Does d) k = record { touch = k.touch; creates = k.creates; stands = k.stands; number = k.number }

-- ---- threads

-- a call on the table of threads, which creates none
by_id : (procs t now : ℕ) (x : Shared) (call : Call) → CreatesNone call → KeepsTo procs t x (by_table (after call t now x.table) x)
by_id procs t now x call none = by_row (after call t now x.table) refl where
  by_row : (row : Option Table) → after call t now x.table ≡ row → KeepsTo procs t x (by_table row x)
  by_row None is = tt
  by_row (Some table) is = record {
    touch = λ q e. refl;
    creates = λ s made. absurd (nothing_there s made);
    stands = λ stands ready. call_stands call t now x.table table (record { stands = stands; ready = ready; row = is });
    number = numbers_kept call t now x.table table none is;
  }

handle_made : (procs t now : ℕ) (x : Shared) (call : Call) (handle : Handle) → CreatesNone call → after call t now x.table ≡ Some (threads.with_new handle x.table) → KeepsTo procs t x (new_handle handle x)
handle_made procs t now x call handle none is = record {
  touch = λ q e. refl;
  creates = λ s made. absurd (nothing_there s made);
  stands = λ stands ready. call_stands call t now x.table (threads.with_new handle x.table) (record { stands = stands; ready = ready; row = is });
  number = numbers_kept call t now x.table (threads.with_new handle x.table) none is;
}

created : (procs t proc param now : ℕ) (x : Shared) → KeepsTo procs t x (thread_create procs proc param now x)
created procs t proc param now x = by_test (nat_lt proc procs) refl where
  room : Bool
  room = nat_lt (threads.unended x.table) 256

  start : Start
  start = record { proc = proc; param = param }

  by_room : (b : Bool) (s : Start) → (if b then Some start else None) ≡ Some s → proc ≡ s.proc
  by_room true s e = ap (λ (r : Start). r.proc) (same_some start s e)
  by_room false s e = absurd (nothing_there s e)

  one_more : (b : Bool) → length (if◌then◌else◌ {A = ℕ × Table} b (threads.next_id x.table, threads.created proc param now x.table) (0, x.table)).1.threads ≡ more_by (if b then Some start else None) (length x.table.threads)
  one_more true = length_push x.table.threads _
  one_more false = refl

  by_test : (b : Bool) → nat_lt proc procs ≡ b → KeepsTo procs t x (if b then Does (record { answer = (threads.create proc param now x.table).0; after = record x { table = (threads.create proc param now x.table).1 }; touched = untouched; made = created_thread proc param x.table; over = None }) else traps_with BadCode)
  by_test true is = record {
    touch = λ q e. refl;
    creates = λ s made. subst (λ n. n < procs) (by_room room s made) (ltb-true proc procs is);
    stands = λ stands ready. call_stands (Creates proc param) t now x.table (threads.create proc param now x.table).1 (record { stands = stands; ready = ready; row = refl });
    number = one_more room;
  }
  by_test false is = tt

trapped : (procs t : ℕ) (x : Shared) (kind : Option TrapKind) → KeepsTo procs t x (trap_by kind)
trapped procs t x None = tt
trapped procs t x (Some kind) = tt

-- ---- the table

row_keeps : (p : Program) (a b c d t now line : ℕ) (x : Shared) (call : RuntimeCall) → KeepsTo p.procs t x (row_of p a b c d t now line x call)
row_keeps p a b c d t now line x calls.PlaceOpen = opened p.procs t x _
row_keeps p a b c d t now line x calls.PlaceFree = freed p.procs t is_scope BadPointer a x (starting x.seen a)
row_keeps p a b c d t now line x calls.ObjMade = noted p.procs t a b line x
row_keeps p a b c d t now line x calls.ObjDead = closed p.procs t a b line x
row_keeps p a b c d t now line x calls.NewPlace = made_new p.procs t b x (form_of c) _
row_keeps p a b c d t now line x calls.DeleteBegin = deleted p.procs t a x (form_of c) _
row_keeps p a b c d t now line x calls.DeleteEnd = freed p.procs t (λ h. h.dying) BadFree a x (starting x.seen a)
row_keeps p a b c d t now line x calls.StrInit = text p.procs t p.rule line x (texts.str_init x.seen.strings a)
row_keeps p a b c d t now line x calls.StrDrop = text p.procs t p.rule line x (texts.str_drop x.seen.strings a)
row_keeps p a b c d t now line x calls.StrLit = text p.procs t p.rule line x (texts.str_lit x.seen.strings p.literals a b)
row_keeps p a b c d t now line x calls.StrCopy = text p.procs t p.rule line x (texts.str_copy x.seen.strings a b)
row_keeps p a b c d t now line x calls.StrCat = text p.procs t p.rule line x (texts.str_cat x.seen.strings a b c)
row_keeps p a b c d t now line x calls.StrSet = text p.procs t p.rule line x (texts.str_set x.seen.strings a b)
row_keeps p a b c d t now line x calls.StrCmp = text p.procs t p.rule line x (texts.str_cmp x.seen.strings a b)
row_keeps p a b c d t now line x calls.StrLen = text p.procs t p.rule line x (texts.str_len x.seen.strings a)
row_keeps p a b c d t now line x calls.StrLeft = text p.procs t p.rule line x (texts.str_left x.seen.strings a b c)
row_keeps p a b c d t now line x calls.StrRight = text p.procs t p.rule line x (texts.str_right x.seen.strings a b c)
row_keeps p a b c d t now line x calls.StrMid = text p.procs t p.rule line x (texts.str_mid x.seen.strings a b c d)
row_keeps p a b c d t now line x calls.StrChr = text p.procs t p.rule line x (texts.str_chr x.seen.strings a b)
row_keeps p a b c d t now line x calls.StrAsc = text p.procs t p.rule line x (texts.str_asc x.seen.strings a b)
row_keeps p a b c d t now line x calls.StrSigned = text p.procs t p.rule line x (texts.str_signed x.seen.strings a b)
row_keeps p a b c d t now line x calls.StrUnsigned = text p.procs t p.rule line x (texts.str_unsigned x.seen.strings a b)
row_keeps p a b c d t now line x calls.StrVal = text p.procs t p.rule line x (texts.str_val x.seen.strings a)
row_keeps p a b c d t now line x calls.StrFind = text p.procs t p.rule line x (texts.str_find x.seen.strings a b c)
row_keeps p a b c d t now line x calls.StrUpper = text p.procs t p.rule line x (texts.str_upper x.seen.strings a b)
row_keeps p a b c d t now line x calls.StrLower = text p.procs t p.rule line x (texts.str_lower x.seen.strings a b)
row_keeps p a b c d t now line x calls.StrSpace = text p.procs t p.rule line x (texts.str_space x.seen.strings a b)
row_keeps p a b c d t now line x calls.StrLTrim = text p.procs t p.rule line x (texts.str_ltrim x.seen.strings a b)
row_keeps p a b c d t now line x calls.StrRTrim = text p.procs t p.rule line x (texts.str_rtrim x.seen.strings a b)
row_keeps p a b c d t now line x calls.StrGet = text p.procs t p.rule line x (texts.str_get x.seen.strings a b)
row_keeps p a b c d t now line x calls.StrPut = text p.procs t p.rule line x (texts.str_put x.seen.strings a b c)
row_keeps p a b c d t now line x calls.PrintSigned = plain p.procs t x _ (λ q e. refl) refl refl
row_keeps p a b c d t now line x calls.PrintUnsigned = plain p.procs t x _ (λ q e. refl) refl refl
row_keeps p a b c d t now line x calls.PrintBool = plain p.procs t x _ (λ q e. refl) refl refl
row_keeps p a b c d t now line x calls.PrintStr = printed_text p.procs t x (text_of (x.seen.strings a))
row_keeps p a b c d t now line x calls.PrintTab = plain p.procs t x _ (λ q e. refl) refl refl
row_keeps p a b c d t now line x calls.PrintLine = plain p.procs t x _ (λ q e. refl) refl refl
row_keeps p a b c d t now line x calls.LineInput =
    left p.procs t x (behind_line x.input) (by_outcome p.rule line x (line_read x.seen.strings a (first_line x.input))) (text p.procs t p.rule line x (line_read x.seen.strings a (first_line x.input)))
row_keeps p a b c d t now line x calls.ThreadCreate = created p.procs t a b now x
row_keeps p a b c d t now line x calls.ThreadWait = by_id p.procs t now x (Waits a) tt
row_keeps p a b c d t now line x calls.ThreadDetach = by_id p.procs t now x (Detaches a) tt
row_keeps p a b c d t now line x calls.ThreadEnd = by_id p.procs t now x Ends tt
row_keeps p a b c d t now line x calls.MutexCreate = handle_made p.procs t now x MakesMutex (Mutex None) tt refl
row_keeps p a b c d t now line x calls.MutexLock = by_id p.procs t now x (Locks a) tt
row_keeps p a b c d t now line x calls.MutexUnlock = by_id p.procs t now x (Unlocks a) tt
row_keeps p a b c d t now line x calls.MutexDestroy = by_id p.procs t now x (DestroysMutex a) tt
row_keeps p a b c d t now line x calls.CondCreate = handle_made p.procs t now x MakesCondition Condition tt refl
row_keeps p a b c d t now line x calls.CondWait = by_id p.procs t now x (WaitsAt a b) tt
row_keeps p a b c d t now line x calls.CondSignal = by_id p.procs t now x (Signals a) tt
row_keeps p a b c d t now line x calls.CondBroadcast = by_id p.procs t now x (Broadcasts a) tt
row_keeps p a b c d t now line x calls.CondDestroy = by_id p.procs t now x (DestroysCondition a) tt
row_keeps p a b c d t now line x calls.Sleep = plain p.procs t x _ (λ q e. refl) refl refl
row_keeps p a b c d t now line x calls.MainEnd = plain p.procs t x _ (λ q e. refl) refl refl
row_keeps p a b c d t now line x calls.End = plain p.procs t x _ (λ q e. refl) refl refl
row_keeps p a b c d t now line x calls.Trap = trapped p.procs t x (trap_of a)

pub table_keeps : (p : Program) (number : ℕ) (args : List ℕ) (t now line : ℕ) (x : Shared) → KeepsTo p.procs t x (applies p number args t now line x)
unfolding applies
table_keeps p number args t now line x = by_call (call_of number) where
  by_call : (call : Option RuntimeCall) → KeepsTo p.procs t x (row_by p (slice_index args 0) (slice_index args 1) (slice_index args 2) (slice_index args 3) t now line x call)
  by_call None = tt
  by_call (Some call) = row_keeps p (slice_index args 0) (slice_index args 1) (slice_index args 2) (slice_index args 3) t now line x call

-- ---- stores

neither : (b c : Bool) → (b || c) ≡ false → (b ≡ false) × (c ≡ false)
neither true c e = absurd (true≢false e)
neither false c e = (refl, e)

stores_keep : (w : List Store) (m : Memory) (a : ℕ) → among w a ≡ false → m a ≡ with_stores w m a
stores_keep [] m a e = refl
stores_keep (s ∷ w) m a e =
    let n = neither (a == s.addr) (among w a) e in
    changed (a == s.addr) (m a) (Some s.byte) n.0 ∙ stores_keep w (with_byte m s.addr s.byte) a n.1

pub keeps_to : (p : Program) → Lawful (runtime p)
keeps_to p = record {
  stores_keep = λ w x a e. stores_keep w x.seen.bytes a e;
  calls_touch = λ number args t now line x d e a h. (subst (KeepsTo p.procs t x) e (table_keeps p number args t now line x)).touch a h;
  creates = λ number args t now line x d s e made. (subst (KeepsTo p.procs t x) e (table_keeps p number args t now line x)).creates s made;
}
