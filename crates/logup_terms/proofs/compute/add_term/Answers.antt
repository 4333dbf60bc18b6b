use Rattle.logup_terms.proofs.TermsLoops.{first_added}
use Rattle.logup_terms.proofs.compute.add_term.Goals as goal

pub returns-then-k-eq0 : goal.returns-then-k-eq0
returns-then-k-eq0 c =
    let pre = c.requires in
    first_added pre.0.certificate (pre.3 c.if-k-eq0.true) pre.4 pre.5
