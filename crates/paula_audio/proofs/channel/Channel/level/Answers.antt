use Rattle.std.proofs.Common.{rules, arith, ◌≡◌, ◌<◌, ◌≤◌}
use Rattle.std.proofs.lemmas.Int.{to_z-of_z, ints}
use Rattle.paula_audio.proofs.SoundLaws.{is_level}
use Rattle.paula_audio.specs.Sound.{level_of, volume_of}
use Rattle.paula_audio.proofs.channel.Channel.level.Goals as goal

pub returns-clause-least : goal.returns-clause-least
returns-clause-least c =
    let below : c.args.self.now.sample < 256 = search rules in
    let few : volume_of c.args.self.now ≤ 64 = omega arith in
    let is : c.div_euclid.result ≡ level_of c.args.self.now = search (rules, to_z-of_z) in
    omega (arith, ints, (is_level _ _ below few).least, is)

pub returns-clause-most : goal.returns-clause-most
returns-clause-most c =
    let below : c.args.self.now.sample < 256 = search rules in
    let few : volume_of c.args.self.now ≤ 64 = omega arith in
    let is : c.div_euclid.result ≡ level_of c.args.self.now = search (rules, to_z-of_z) in
    omega (arith, ints, (is_level _ _ below few).most, is)
