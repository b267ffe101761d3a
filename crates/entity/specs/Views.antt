-- What an entity is to the definitions.
use Rattle.suite.specs.Meanings.{Meaning}
use Rattle.protocol.specs.Models.{Model}
use Rattle.entity.specs.declared.entity.Entity.{Entity}

-- the entity's fields, and what its suite means
abbrev pub view : {S : Type 0} {b : _} → (S → Meaning) → Entity S b → Model
view meaning e = record {
  means = meaning e.suite;
  state = e.state;
  service = e.service;
  role = e.role;
  seed = e.seed;
  number = e.number;
  held = e.held;
  secret = e.secret;
  link = e.link;
}
