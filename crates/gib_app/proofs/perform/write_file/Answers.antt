use Rattle.std.proofs.Common.{ap, option_map}
use Rattle.gib_app.proofs.perform.write_file.Goals as goal

pub returns-in-Err-clause-named : goal.returns-in-Err-clause-named
returns-in-Err-clause-named g c = (c.in-Some.name.now, ap (option_map (λ name. name.now)) c.in-Some.is)

pub returns-in-Err-clause-there : goal.returns-in-Err-clause-there
returns-in-Err-clause-there g c = (c.in-Some-file.bytes.items, ap (option_map (λ bytes. bytes.items)) c.in-Some-file.is)
