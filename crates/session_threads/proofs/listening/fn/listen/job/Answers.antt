use denote.Param.Send.{sendable}
use Rattle.session_threads.proofs.listening.fn.listen.job.Goals as goal

-- what may cross threads where the listener is started still may in its thread
pub accept_all-requires-send-K : goal.accept_all-requires-send-K
accept_all-requires-send-K g c κs within = search sendable depth 60

pub accept_all-requires-send-P : goal.accept_all-requires-send-P
accept_all-requires-send-P g c κs within = search sendable depth 60

pub accept_all-requires-send-K-Receipt : goal.accept_all-requires-send-K-Receipt
accept_all-requires-send-K-Receipt g c κs within = search sendable depth 60

pub accept_all-requires-send-K-Mail : goal.accept_all-requires-send-K-Mail
accept_all-requires-send-K-Mail g c κs within = search sendable depth 60

pub accept_all-requires-send-K-Posted : goal.accept_all-requires-send-K-Posted
accept_all-requires-send-K-Posted g c κs within = search sendable depth 60

pub accept_all-requires-send-K-Erase : goal.accept_all-requires-send-K-Erase
accept_all-requires-send-K-Erase g c κs within = search sendable depth 60

pub accept_all-requires-send-K-Entered : goal.accept_all-requires-send-K-Entered
accept_all-requires-send-K-Entered g c κs within = search sendable depth 60

pub accept_all-requires-send-K-Prepared : goal.accept_all-requires-send-K-Prepared
accept_all-requires-send-K-Prepared g c κs within = search sendable depth 60

pub accept_all-requires-send-K-Gone : goal.accept_all-requires-send-K-Gone
accept_all-requires-send-K-Gone g c κs within = search sendable depth 60

pub accept_all-requires-send-K-Posted-Directory : goal.accept_all-requires-send-K-Posted-Directory
accept_all-requires-send-K-Posted-Directory g c κs within = search sendable depth 60
