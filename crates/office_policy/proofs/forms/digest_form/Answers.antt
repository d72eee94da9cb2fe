use Rattle.std.proofs.lemmas.Grind.{get_or_default_zero}
use Rattle.office_policy.proofs.forms.digest_form.Goals as goal

pub returns : goal.returns
returns c = (c.told-digest, λ k d below. rw (get_or_default_zero c.args.digest.now k d below) (c.fits-digest k))
