use Rattle.spill_device.proofs.PathLemmas.{file_path-injective, part-apart}
use Rattle.spill_device.proofs.file.no_two_keys_share_a_file.Goals as goal

pub returns-clause-apart : goal.returns-clause-apart
returns-clause-apart c = file_path-injective

pub returns-clause-beside : goal.returns-clause-beside
returns-clause-beside c = part-apart
