-- "UAR." and "LIR.": what each comes to, by the answers to its questions. 02 [7] took their B5012 out: a sound record in state 1 or 2 has a server name.
use Rattle.std.specs.Prelude.{ℕ, cond, not, ◌&&◌, eqb}
use Rattle.reading.specs.declared.Outcome.TheVariants.{Base, Experimental}
use Rattle.choices.specs.declared.choice.Asked.{Asked}
use Rattle.choices.specs.declared.choice.Sought.{Sought}
use Rattle.choices.specs.declared.choice.Choice.{Choice}
use Rattle.choices.specs.declared.choice.Choice.TheVariants.{Alone, Server, Capabilities, First}

-- "UAR. Either identity unknown: X5001. Not together in one record: X5002. Barred: B5003 (02 [6]: and no other of its set free). Type 0 or 2: the visited
-- network is named in the header and its bit set, else X5004. Type 2: B2001 with capabilities. State 1 or 2: the server name .. , with X2002 for type 0, B2001
-- for type 1. State 0, type 1: X5003. State 0, type 0: the first server name in the subscription by table order with X2002; none, capabilities with X2001."
unfoldable pub authorization : Asked → ℕ → Choice
authorization a kind =
    cond (not a.known) (Alone (Experimental 5001))
    (cond (not a.together) (Alone (Experimental 5002))
    (cond a.barred (Alone (Base 5003))
    (cond (not (eqb kind 1) && not a.roams) (Alone (Experimental 5004))
    (cond (eqb kind 2) (Capabilities (Base 2001))
    (cond a.present (Server (cond (eqb kind 0) (Experimental 2002) (Base 2001)))
    (cond (eqb kind 1) (Alone (Experimental 5003))
    (First (Experimental 2002) (Experimental 2001))))))))

-- "LIR. Unknown: X5001. State 1 or 2: server name, B2001 .. . State 0 without unregistered services: X5003; with them, the subscription's
-- first server name, B2001; none, capabilities, X2003."
unfoldable pub location : Sought → Choice
location a =
    cond (not a.known) (Alone (Experimental 5001))
    (cond a.present (Server (Base 2001))
    (cond (not a.services) (Alone (Experimental 5003))
    (First (Base 2001) (Experimental 2003))))
