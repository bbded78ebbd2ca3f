use Rattle.std.proofs.Common.{refl, w8}
use Rattle.std.proofs.lemmas.Simd.{get_or_wider, below_from_Fits}
use Rattle.fast_sha256.proofs.schedule.as_words.Goals as goal

pub returns : goal.returns
returns c j lt = get_or_wider 256 4 4294967296 4 c.args.bytes j refl (below_from_Fits w8 c.args.bytes c.fits-bytes.1) lt
