pub mod ByteLaws
pub mod CallLaws
pub mod KeyLaws
pub mod RoleLaws
