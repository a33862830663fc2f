mod Planes
