use Rattle.lru_evictor.proofs.Firsts.{firsts-rise}
use Rattle.lru_evictor.proofs.search.fits_first.Goals as goal

pub fits_without-requires : goal.fits_without-requires
fits_without-requires c = rw (c.deref.ensures.value, c.in_ok-gone.ensures) (firsts-rise c.args.count c.args.leaving.now c.requires)
