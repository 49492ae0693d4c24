-- What `texts::Texts::put` owes besides what the check finds.
use Rattle.dialect_types.proofs.LegalLaws.{put_new, put_met}
use Rattle.dialect_types.proofs.texts.Texts.put.Goals.{then-new, else-new}
use Rattle.dialect_types.proofs.texts.Texts.put.Goals as goal

pub returns-clause-put : goal.returns-clause-put
returns-clause-put c =
    let put = c.in_ok-at.ensures in
    rw (← c.self.view_is) (elim c.if-new.branch [
      | then-new w ↦ rw w.result-is (put_new c.self.inside.set.keys c.insert_full.new.self.keys c.args.text c.in_ok-at.new put.added put.keys w.if-new.true)
      | else-new w ↦ rw w.result-is (put_met c.self.inside.set.keys c.insert_full.new.self.keys c.args.text c.in_ok-at.new c.in_ok-at.at put.added put.keys put.stored w.if-new.false)
    ])
