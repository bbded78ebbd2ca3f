use Rattle.run_laws.proofs.WhatIsSeen.{sees_what_is_led}
use Rattle.run_laws.proofs.grant_laws.what_is_seen_in_a_trace_is_led_to.Goals as goal

pub returns : goal.returns
returns c = sees_what_is_led
