use Rattle.fetch_core.proofs.StoresFetches.{fetch_located, fetch_begun_at, fetch_refused, fetch_takes}
use Rattle.fetch_core.proofs.laws.fetches_go_on_as_their_stores.Goals as goal

pub returns-clause-located : goal.returns-clause-located
returns-clause-located c = fetch_located

pub returns-clause-begun : goal.returns-clause-begun
returns-clause-begun c = fetch_begun_at

pub returns-clause-refused : goal.returns-clause-refused
returns-clause-refused c = fetch_refused

pub returns-clause-chunk : goal.returns-clause-chunk
returns-clause-chunk c = fetch_takes
