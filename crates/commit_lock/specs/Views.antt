-- What a seat knows at each of the two tables of a lock.
use Rattle.std.specs.Prelude.{ℕ, List, []}
use base.Stored.{Coded, coded×, coded_ℕ, coded_list, coded_via}
use Rattle.atomic_table.specs.Seated.{TableId, table_id_coded}

-- At the turn table: the name of the book table, the seat's parts of the lock, and 1 where it holds the turn, else 0.
pub record TurnSeen : Type 0 where
  pub book : TableId
  pub parts : ℕ
  pub turn : ℕ

abbrev pub share : TableId → ℕ → ℕ → TurnSeen
share book parts turn = record { book = book; parts = parts; turn = turn }

abbrev pub no_table : TableId
no_table = record { words = 0; slots = 0; views_name = 0; atom = 0; block = 0; offset = 0; slot_names = [] }

-- what is left of a seat that another took in
abbrev pub turn_spent : TurnSeen
turn_spent = share no_table 0 0

abbrev pub turn_coded : Coded TurnSeen
turn_coded = coded_via (coded× table_id_coded (coded× coded_ℕ coded_ℕ)) (λ (v : TurnSeen). (v.book, (v.parts, v.turn)))
    (λ x y e i. record { book = (e i).0; parts = (e i).1.0; turn = (e i).1.1 })

-- At the book table: the base; the history that was seen; the base and the history of each seat that was taken in;
-- 1 unless it is spent; and 1 where it is the pen, else 0.
pub record BookSeen : Type 0 where
  pub base : List ℕ
  pub seen : List ℕ
  pub olds : List (List ℕ × List ℕ)
  pub live : ℕ
  pub pens : ℕ

abbrev pub page : List ℕ → List ℕ → List (List ℕ × List ℕ) → ℕ → ℕ → BookSeen
page base seen olds live pens = record { base = base; seen = seen; olds = olds; live = live; pens = pens }

-- the pen of a new lock
abbrev pub book_first : List ℕ → List ℕ → BookSeen
book_first base hist = page base hist [] 1 1

abbrev pub book_spent : BookSeen
book_spent = page [] [] [] 0 0

abbrev pub book_coded : Coded BookSeen
book_coded = coded_via (coded× (coded_list coded_ℕ) (coded× (coded_list coded_ℕ) (coded× (coded_list (coded× (coded_list coded_ℕ) (coded_list coded_ℕ))) (coded× coded_ℕ coded_ℕ))))
    (λ (v : BookSeen). (v.base, (v.seen, (v.olds, (v.live, v.pens)))))
    (λ x y e i. record { base = (e i).0; seen = (e i).1.0; olds = (e i).1.1.0; live = (e i).1.1.1.0; pens = (e i).1.1.1.1 })
