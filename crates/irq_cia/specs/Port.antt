-- A port of a CIA: its data register, its pins and their direction.
use Rattle.std.specs.Prelude.{ℕ, ◌-◌, bit_and, bit_or}
use Rattle.irq_cia.specs.declared.port.Port.{Port}

abbrev pub reset_port : Port
reset_port = record {
  output = 0;
  direction = 0;
}

-- a read gives the register where the direction is 1, and the pins where it is 0
abbrev pub port_read : ℕ → Port → ℕ
port_read pins p = bit_or (bit_and p.output p.direction) (bit_and pins (255 - p.direction))
