use Rattle.std.specs.Prelude.{ℕ, ◌==◌, if◌then◌else◌, List, [], ◌∷◌}
use Rattle.thread_system.specs.Printing.{signed_item}

-- What a runtime call does for a thread that runs alone.
pub data CallResult : Type 0 where
  -- it prints these bytes, and the thread goes on with the answer 0
  Prints : (bytes : List ℕ) → CallResult
  -- it ends the run with this status
  Ends : (status : ℕ) → CallResult
  -- there is no such call, and the thread is stopped by the trap BadCode
  IsNone : CallResult

-- the numbers of the calls: they print a word as a signed number, print a line end, and end the main module
abbrev pub print_signed : ℕ
print_signed = 40

abbrev pub print_line : ℕ
print_line = 45

abbrev pub main_end : ℕ
main_end = 64

-- What each call does with its arguments; the machine gives it four, of which a printed item is the first.
abbrev pub call_result : ℕ → List ℕ → CallResult
call_result number [] = IsNone
call_result number (word ∷ others) =
    if number == print_signed then Prints (signed_item word)
    else if number == print_line then Prints (10 ∷ [])
    else if number == main_end then Ends 0
    else IsNone
