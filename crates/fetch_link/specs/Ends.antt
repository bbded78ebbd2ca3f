-- What the ends of a link have had.
use Rattle.std.specs.Prelude.{◌≡◌, Bool, List, is_some, IsSomeAnd}
use Rattle.crossbeam_channel.specs.Claims.{view}
use Rattle.crossbeam_channel.specs.Ends.{sends_on, receives_on}
use Rattle.fetch_link.specs.declared.sender.LinkSender.{LinkSender}
use Rattle.fetch_link.specs.declared.receiver.LinkReceiver.{LinkReceiver}

module _ {M : Type 0} where
  -- the messages that were accepted of a sender, in order
  abbrev pub accepted_of : LinkSender M → List M
  accepted_of sender = (view sender.pass).accepted

  -- those that a receiver was given, in order
  abbrev pub received_of : LinkReceiver M → List M
  received_of receiver = (view receiver.pass).received

  -- whether the end isn't closed
  abbrev pub is_open : LinkSender M → Bool
  is_open sender = is_some sender.channel

  -- the sender is open, and the receiver is the other end of its link
  abbrev pub AreEnds : LinkSender M → LinkReceiver M → Type 0
  AreEnds sender receiver = IsSomeAnd sender.channel (λ channel. receives_on receiver.channel ≡ sends_on channel)
