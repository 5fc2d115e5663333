use Rattle.std.proofs.Common.{rules}
use Rattle.commit_lock.proofs.Pages.{book_splits}
use Rattle.commit_lock.proofs.lock.TurnLock.enter.Goals as goal

pub split_seat-copy-requires : goal.split_seat-copy-requires
split_seat-copy-requires g c = (c.requires.book, search rules, book_splits _ _ _)
