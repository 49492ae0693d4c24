-- What `legaliser::legal_laws` owes besides what the check finds.
use Rattle.dialect_types.proofs.LegalLaws.{gave_kept, gave_legal, one_identifier, one_name}
use Rattle.dialect_types.proofs.legaliser.legal_laws.Goals as goal

pub returns-clause-apart : goal.returns-clause-apart
returns-clause-apart c = one_name

pub returns-clause-same : goal.returns-clause-same
returns-clause-same c = one_identifier

pub returns-clause-legal : goal.returns-clause-legal
returns-clause-legal c = gave_legal

pub returns-clause-kept : goal.returns-clause-kept
returns-clause-kept c = gave_kept
