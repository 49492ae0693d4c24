-- What `interner::Interner::get` answers, by what its set does.
use Rattle.support.proofs.interner.Interner.get.Goals as goal

pub returns-clause-interned : goal.returns-clause-interned
returns-clause-interned g c =
    let put = c.in_ok-at.ensures in
    rw (← c.self.view_is) (record { grown = put.keys; number = put.index; stored = put.stored })
