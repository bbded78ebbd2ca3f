use Rattle.grants.proofs.Reach.{seen_where_led}
use Rattle.grants.proofs.what_is_seen_is_led_to.Goals as goal

pub returns : goal.returns
returns c grants = seen_where_led grants
