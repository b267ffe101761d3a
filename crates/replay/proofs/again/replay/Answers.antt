use Rattle.std.proofs.Common.{rules, ◌≡◌, ◌++◌, length, take, drop}
use Rattle.promises.proofs.Whole.{promises_hold}
use Rattle.exchanges.proofs.Whole.{undisturbed_succeeds}
use Rattle.replay.specs.Replays.{AllPromises}
use Rattle.replay.proofs.Turns.{written_back}
use Rattle.replay.proofs.Orders.{order_told}
use Rattle.replay.proofs.again.replay.Given.{Over}
use Rattle.replay.proofs.again.replay.Goals as goal

all_hold : AllPromises
all_hold = (promises_hold, undisturbed_succeeds)

pub returns-in_err-first-clause-promised : goal.returns-in_err-first-clause-promised
returns-in_err-first-clause-promised g c = all_hold

pub returns-in_err-second-clause-promised : goal.returns-in_err-second-clause-promised
returns-in_err-second-clause-promised g c = all_hold

pub returns-in_err-buffer-clause-promised : goal.returns-in_err-buffer-clause-promised
returns-in_err-buffer-clause-promised g c = all_hold

pub returns-clause-promised : goal.returns-clause-promised
returns-clause-promised g c = all_hold

-- the entries are what was written to their places
one_back : (g : Over) (c : goal.After-drop-buffer g)
    → take c.in_ok-first.first.len (c.play.new.entries ++ drop (length c.play.new.entries) c.in_ok-first.first.items) ≡ c.play.new.entries
one_back g c = search (rules, written_back)

other_back : (g : Over) (c : goal.After-drop-buffer g)
    → take c.in_ok-second.second.len (c.play-2.new.entries ++ drop (length c.play-2.new.entries) c.in_ok-second.second.items) ≡ c.play-2.new.entries
other_back g c = search (rules, written_back)

pub returns-clause-order : goal.returns-clause-order
returns-clause-order g c =
    rw (one_back g c, other_back g c) (order_told _ _ g.met.S.Suite.lawful g.met.T.Suite.lawful _ _ _ _ _ _ _ _ c.play.ensures c.play-2.ensures)

pub returns-clause-order_back : goal.returns-clause-order_back
returns-clause-order_back g c =
    rw (one_back g c, other_back g c) (order_told _ _ g.met.T.Suite.lawful g.met.S.Suite.lawful _ _ _ _ _ _ _ _ c.play-2.ensures c.play.ensures)
