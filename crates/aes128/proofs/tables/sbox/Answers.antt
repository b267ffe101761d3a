use Rattle.std.proofs.Common.{refl, arith}
use Rattle.aes128.specs.Field.{mul, power_low, inverse, sub_byte}
use Rattle.aes128.specs.declared.tables.TheConstants.{SBOX}
use Rattle.aes128.proofs.Inverses.{inverses}
use Rattle.aes128.proofs.TableRules.{entries}
use Rattle.aes128.proofs.tables.sbox.Goals as goal

pub returns : goal.returns
unfolding sub_byte inverse power_low mul
returns c = record { value = entries sub_byte SBOX c.args.a (omega arith) refl; inverse = inverses }
